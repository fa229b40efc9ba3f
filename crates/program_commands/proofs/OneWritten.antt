-- `compile` and `migrate` write at most one text for a net.
use Rattle.std.proofs.Common.{◌≡◌, ◌∙◌, ℕ, ◌+◌, Bool, true, false, List, Option, refl, sym, ap, arith}
use Rattle.std.specs.Prelude.{max}
use Rattle.std.proofs.lemmas.List.{append_cancel_left}
use Rattle.chp_syntax.specs.Trees.{ProgramTree}
use Rattle.handshake_expand.specs.Layout.{capped, node_count}
use Rattle.prs_core.specs.Nets.{NetValue}
use Rattle.prs_file.specs.declared.fault.NetFault.TheVariants.{DoubleName}
use Rattle.prs_file.specs.Spelling.{spelling}
use Rattle.reset_net.specs.Resets.{reset_of}
use Rattle.width_check.specs.Processes.{TypedProgram}
use Rattle.call_map.specs.CallNet.{CallProgram, call_count, call_names, call_net}
use Rattle.call_compose.specs.CalledForm.{call_program}
use Rattle.call_compose.specs.Inlined.{AreInlined}
use Rattle.call_compose.specs.Placing.{shared_of}
use Rattle.command_answers.specs.declared.answer.Ending.TheVariants.{Done}
use Rattle.command_answers.specs.declared.status.Status.TheVariants.{BadFile, TooLarge}
use Rattle.command_answers.specs.Answers.{Answer, OneAnswer, writes, refuses}
use Rattle.command_answers.specs.Lines.{bad_net_line, nodes_line}
use Rattle.command_steps.proofs.OneMeaning.{inlined_once}
use Rattle.command_words.specs.CompileWords.{AskedCompilation}
use Rattle.program_commands.specs.Bodies.{Bodies, HasBodies, as_copies, as_shared, counted_with, net_for, net_with}
use Rattle.program_commands.specs.Compiling.{CompilesForm, CompilesNet, compiled, too_large}
use Rattle.program_commands.specs.Migrating.{MigratesNet, taken, migrated}

-- ---- the net of a program

-- from a text there is one net with shared bodies
pub same_shared : {program : ProgramTree} {p : TypedProgram} (h k : AreInlined program p) → shared_of h ≡ shared_of k
same_shared {program} h k =
    let trees : h.tree ≡ k.tree = inlined_once program h.tree k.tree h.inlined k.inlined in
    ap (call_program program) (append_cancel_left program.decls h.inlined.vars k.inlined.vars
    (ap (λ (t : ProgramTree). t.decls) (sym h.inlined.tree ∙ (trees ∙ k.inlined.tree))))

pub record AreAlike {p : TypedProgram} (b d : Bodies p) : Type 0 where
  pub net : net_with b ≡ net_with d
  pub counted : counted_with b ≡ counted_with d

pub bodies_once : (program : ProgramTree) (buffer : Option (List ℕ)) {p : TypedProgram} (b d : Bodies p) → HasBodies program buffer b →
    HasBodies program buffer d → AreAlike b d
bodies_once program buffer b d (as_copies is) (as_copies also) = record { net = refl; counted = refl }
bodies_once program buffer b d (as_copies is) (as_shared not k) = absurd (not is)
bodies_once program buffer b d (as_shared not h) (as_copies is) = absurd (not is)
bodies_once program buffer {p} b d (as_shared not h) (as_shared nor k) =
    let same = same_shared h k in record {
      net = ap (λ (C : CallProgram). call_net C (call_names C)) same;
      counted = ap (λ (C : CallProgram). max (capped (call_count C)) (node_count p)) same;
    }

net_alike : (reset : Bool) {p : TypedProgram} (b d : Bodies p) → net_with b ≡ net_with d → net_for reset b ≡ net_for reset d
net_alike false b d same = same
net_alike true b d same = ap (λ (n : NetValue). reset_of n) same

net_once : (reset : Bool) {p : TypedProgram} (b d : Bodies p) → AreAlike b d → (x y : Answer) → CompilesNet reset b x → CompilesNet reset d y → x ≡ y
net_once reset b d same x y (too_large many) (too_large more) = ap (λ count. refuses TooLarge (nodes_line count)) same.counted
net_once reset b d same x y (too_large many) (compiled few spells) = let e = same.counted in absurd (omega (arith, many, few, e))
net_once reset b d same x y (compiled few spells) (too_large many) = let e = same.counted in absurd (omega (arith, many, few, e))
net_once reset b d same x y (compiled few spells) (compiled less reads) =
    ap (λ file. writes Done file) (spells ∙ (ap (λ (n : NetValue). spelling n) (net_alike reset b d same.net) ∙ sym reads))

pub form_once : (c : AskedCompilation) (program : ProgramTree) (p : TypedProgram) → OneAnswer (CompilesForm c program p)
form_once c program p x y f g = net_once c.reset f.bodies g.bodies (bodies_once program c.buffer f.bodies g.bodies f.has g.has) x y f.net g.net

pub migrate_once : (net : NetValue) (a b : Answer) → MigratesNet net a → MigratesNet net b → a ≡ b
migrate_once net a b (taken {node = k} plain is) (taken {node = l} same are) = let e : k ≡ l = cc (is, are) in
    ap (λ node. refuses BadFile (bad_net_line DoubleName (node + 2))) e
migrate_once net a b (taken plain is) (migrated free spells) = absurd (cc (free plain, is))
migrate_once net a b (migrated free spells) (taken plain is) = absurd (cc (free plain, is))
migrate_once net a b (migrated free spells) (migrated also reads) = ap (λ file. writes Done file) (spells ∙ sym reads)
