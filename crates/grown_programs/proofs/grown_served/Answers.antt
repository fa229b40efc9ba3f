use Rattle.std.proofs.Common.{◌≡◌, true, refl, sym, subst}
use Rattle.std.specs.List.{list_all}
use Rattle.chp_syntax.specs.Grammar.{the_program}
use Rattle.chp_syntax.specs.Reading.{few_arms}
use Rattle.chp_syntax.specs.Trees.{Procedure, ProgramTree}
use Rattle.grown_programs.proofs.Channels.{all_channels}
use Rattle.grown_programs.proofs.Counting.{body_free, few_nodes}
use Rattle.grown_programs.proofs.Cuts.{all_cut, all_shallow}
use Rattle.grown_programs.proofs.Lines.{rest_program}
use Rattle.grown_programs.proofs.Naming.{no_naming_fault}
use Rattle.grown_programs.proofs.Sharing.{nothing_shared}
use Rattle.grown_programs.proofs.Texts.{short_text}
use Rattle.grown_programs.proofs.grown_served.Goals as goal

pub returns : goal.returns
returns c = λ seed stages some few.
    let rest = rest_program seed stages some few in
    let here = rest.holds in
    let program : ProgramTree = record { decls = here.declared.decls; procs = here.declared.procs; body = here.body.statement } in
    let free = body_free stages program.body here.body.is in
    record {
      program = program;
      short = short_text seed stages some few;
      reads = record {
        tokens = rest.tokens;
        cut = all_cut rest;
        derives = the_program here.derives here.body.derives;
        shallow = all_shallow rest;
        few_in_procs = subst (λ procs. list_all (λ (q : Procedure). few_arms q.body) procs ≡ true) (sym here.procs) refl;
        few_in_body = free.1;
      };
      accepted = record {
        call_free = record { procs = here.procs; body = free.0 };
        named = no_naming_fault stages some few program.decls here.are program refl here.body.is;
        sharing = nothing_shared stages some few program.decls here.are program.body here.body.is;
      };
      wired = all_channels stages program.decls here.are;
      few = few_nodes stages program some few here.are here.body.is;
    }
