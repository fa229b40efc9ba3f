use Rattle.std.proofs.Common.{true, ◌≡◌}
use Rattle.std.specs.List.{list_all}
use Rattle.chp_syntax.specs.declared.tree.Program.{Program}
use Rattle.chp_syntax.specs.Trees.{Procedure}
use Rattle.chp_syntax.specs.Reading.{few_arms}
use Rattle.chp_syntax.specs.View.{program_tree}
use Rattle.chp_syntax.proofs.FewArms.{few_in_program}
use Rattle.chp_syntax.proofs.Ands.{ok_of_both, on_ok}
use Rattle.chp_syntax.proofs.parser.parse_list.Goals as goal

pub returns-clause-few_in_procs : goal.returns-clause-few_in_procs
returns-clause-few_in_procs c = ok_of_both (λ (p : Program). list_all (λ (q : Procedure). few_arms q.body) (program_tree p).procs ≡ true) c.refuse_arms.result _
    c.and.ensures (on_ok (λ narrow. (few_in_program c.in_ok-program.ensures.derives narrow).0) c.refuse_arms.result c.refuse_arms.ensures.narrow)

pub returns-clause-few_in_body : goal.returns-clause-few_in_body
returns-clause-few_in_body c = ok_of_both (λ (p : Program). few_arms (program_tree p).body ≡ true) c.refuse_arms.result _
    c.and.ensures (on_ok (λ narrow. (few_in_program c.in_ok-program.ensures.derives narrow).1) c.refuse_arms.result c.refuse_arms.ensures.narrow)
