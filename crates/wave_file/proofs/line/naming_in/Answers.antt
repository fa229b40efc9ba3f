use Rattle.wave_file.proofs.Namings.{named_front, named_id, named_space, named_cut, named_end, named_whole}
use Rattle.wave_file.proofs.line.naming_in.Goals as goal

pub returns-in_err-text-clause-none : goal.returns-in_err-text-clause-none
returns-in_err-text-clause-none c = rw c.from_residual.ensures (λ name rest free whole.
    c.in_err-text.ensures.none _ (named_front c.args.text.now c.args.id.now name rest whole))

pub returns-in_err-text-2-clause-none : goal.returns-in_err-text-2-clause-none
returns-in_err-text-2-clause-none c = rw c.from_residual-in_err-text-2.ensures (λ name rest free whole.
    c.in_err-text-2.ensures.none _ (named_id c.args.text.now c.in_ok-text.text.now c.args.id.now name rest c.in_ok-text.ensures.some whole))

pub returns-in_err-text-3-clause-none : goal.returns-in_err-text-3-clause-none
returns-in_err-text-3-clause-none c = rw c.from_residual-in_err-text-3.ensures (λ name rest free whole.
    c.in_err-text-3.ensures.none _ (named_space c.args.text.now c.in_ok-text.text.now c.in_ok-text-2.text.now c.args.id.now name rest
    c.in_ok-text.ensures.some c.in_ok-text-2.ensures.some whole))

pub returns-in_err-name-clause-none : goal.returns-in_err-name-clause-none
returns-in_err-name-clause-none c = rw c.from_residual-in_err-name.ensures (λ name rest free whole.
    c.in_err-name.ensures.none _ _ (named_cut c.args.text.now c.in_ok-text.text.now c.in_ok-text-2.text.now c.in_ok-text-3.text.now c.args.id.now name rest
    c.in_ok-text.ensures.some c.in_ok-text-2.ensures.some c.in_ok-text-3.ensures.some whole))

pub returns-in_err-text-4-clause-none : goal.returns-in_err-text-4-clause-none
returns-in_err-text-4-clause-none c = rw c.from_residual-in_err-text-4.ensures (λ name rest free whole.
    c.in_err-text-4.ensures.none rest (named_end c.args.text.now c.in_ok-text.text.now c.in_ok-text-2.text.now c.in_ok-text-3.text.now c.args.id.now
    c.in_ok-name.name.now c.in_ok-name.text.now name rest free c.in_ok-name.ensures.free
    c.in_ok-text.ensures.some c.in_ok-text-2.ensures.some c.in_ok-text-3.ensures.some c.in_ok-name.ensures.some whole).1)

pub returns-clause-some : goal.returns-clause-some
returns-clause-some c =
    named_whole c.args.text.now c.in_ok-text.text.now c.in_ok-text-2.text.now c.in_ok-text-3.text.now c.args.id.now
    c.in_ok-name.name.now c.in_ok-name.text.now c.in_ok-text-4.text.now
    c.in_ok-text.ensures.some c.in_ok-text-2.ensures.some c.in_ok-text-3.ensures.some c.in_ok-name.ensures.some c.in_ok-text-4.ensures.some
