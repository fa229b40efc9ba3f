use Rattle.std.proofs.Common.{◌≡◌, ◌++◌, List, ℕ, true, sym, ap, ◌∙◌}
use Rattle.std.specs.List.{list_any}
use Rattle.std.specs.Str.{bytes_eq}
use Rattle.chp_syntax.specs.View.{expression_of}
use Rattle.call_merge.specs.CallSplits.{is_var_name, names_read}
use Rattle.call_merge.proofs.own_vars.reads_itself.Goals as goal

pub returns : goal.returns
returns c =
    let var : is_var_name c.args.decls.now c.args.target.now.name ≡ true = sym c.is_var_name.ensures ∙ c.if-not-is_var_name.false in
    let read : c.deref.result.now ≡ names_read (expression_of c.args.value.now) =
    c.deref.ensures.value ∙ (c.in_ok-note_reads.ensures ∙ ap (λ (z : List (List ℕ)). z ++ names_read (expression_of c.args.value.now))
    c.new-read.ensures.items) in
    rw var (c.has_name.ensures ∙ ap (λ (z : List (List ℕ)). list_any (bytes_eq c.args.target.now.name) z) read)
