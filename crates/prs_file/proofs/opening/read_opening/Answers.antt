use Rattle.std.proofs.Common.{sym, ◌∙◌, ◌≡◌, true, false, ap}
use Rattle.std.specs.Prelude.{bytes_eq, codes}
use Rattle.prs_file.specs.Lines.{first_line, behind_line}
use Rattle.prs_file.proofs.Openings.{first_refused, go_refused, done_refused, head_taken, go_taken, done_taken}
use Rattle.prs_file.proofs.opening.read_opening.Goals as goal

pub returns-in_default-clause-refused : goal.returns-in_default-clause-refused
returns-in_default-clause-refused c =
    let fault = c.first_fault-fault in
    let line = c.cut_line.ensures.line in
    first_refused c.args.text.now fault.result (λ v some most. rw (← line) (c.in_default.ensures.none v some most)) (λ e. rw (← line) (fault.ensures.bad e))
    (λ e digits. rw (← line) (fault.ensures.known e digits)) fault.ensures.two

pub returns-then-not-is_spelled-clause-refused : goal.returns-then-not-is_spelled-clause-refused
returns-then-not-is_spelled-clause-refused c =
    let v = c.in-Some.version in
    let head = head_taken c.args.text.now v c.in-Some.ensures.known.0 c.in-Some.ensures.known.1 (sym c.cut_line.ensures.line ∙ c.in-Some.ensures.some) in
    let other : bytes_eq (first_line (behind_line c.args.text.now)) (codes "node go 0\n") ≡ false =
    ap (λ l. bytes_eq l (codes "node go 0\n")) (ap first_line (sym c.cut_line.ensures.rest) ∙ sym c.cut_line-2.ensures.line) ∙ sym c.is_spelled.ensures
    ∙ c.if-not-is_spelled.true in
    go_refused c.args.text.now (behind_line c.args.text.now) v head other

pub returns-then-not-is_spelled-2-clause-refused :
    goal.returns-then-not-is_spelled-2-clause-refused
returns-then-not-is_spelled-2-clause-refused c =
    let v = c.in-Some.version in
    let head = head_taken c.args.text.now v c.in-Some.ensures.known.0 c.in-Some.ensures.known.1 (sym c.cut_line.ensures.line ∙ c.in-Some.ensures.some) in
    let go_is : bytes_eq (first_line (behind_line c.args.text.now)) (codes "node go 0\n") ≡ true =
    ap (λ l. bytes_eq l (codes "node go 0\n")) (ap first_line (sym c.cut_line.ensures.rest) ∙ sym c.cut_line-2.ensures.line) ∙ sym c.is_spelled.ensures
    ∙ c.if-not-is_spelled.false in
    let go = go_taken c.args.text.now (behind_line c.args.text.now) v c.in-Some.ensures.known.0 c.in-Some.ensures.known.1 head go_is in
    let rest : behind_line (behind_line c.args.text.now) ≡ c.cut_line-2.result.1.now = ap behind_line (sym c.cut_line.ensures.rest)
    ∙ sym c.cut_line-2.ensures.rest in
    let other : bytes_eq (first_line (behind_line (behind_line c.args.text.now))) (codes "node done 0\n") ≡ false =
    ap (λ l. bytes_eq l (codes "node done 0\n")) (ap first_line rest ∙ sym c.cut_line-3.ensures.line) ∙ sym c.is_spelled-2.ensures
    ∙ c.if-not-is_spelled-2.true in
    done_refused c.args.text.now (behind_line (behind_line c.args.text.now)) v go other

pub returns-clause-taken : goal.returns-clause-taken
returns-clause-taken c =
    let v = c.in-Some.version in
    let head = head_taken c.args.text.now v c.in-Some.ensures.known.0 c.in-Some.ensures.known.1 (sym c.cut_line.ensures.line ∙ c.in-Some.ensures.some) in
    let go_is : bytes_eq (first_line (behind_line c.args.text.now)) (codes "node go 0\n") ≡ true =
    ap (λ l. bytes_eq l (codes "node go 0\n")) (ap first_line (sym c.cut_line.ensures.rest) ∙ sym c.cut_line-2.ensures.line) ∙ sym c.is_spelled.ensures
    ∙ c.if-not-is_spelled.false in
    let go = go_taken c.args.text.now (behind_line c.args.text.now) v c.in-Some.ensures.known.0 c.in-Some.ensures.known.1 head go_is in
    let rest : behind_line (behind_line c.args.text.now) ≡ c.cut_line-2.result.1.now = ap behind_line (sym c.cut_line.ensures.rest)
    ∙ sym c.cut_line-2.ensures.rest in
    let done_is : bytes_eq (first_line (behind_line (behind_line c.args.text.now))) (codes "node done 0\n") ≡ true =
    ap (λ l. bytes_eq l (codes "node done 0\n")) (ap first_line rest ∙ sym c.cut_line-3.ensures.line) ∙ sym c.is_spelled-2.ensures
    ∙ c.if-not-is_spelled-2.false in
    rw (c.cut_line-3.ensures.rest, ← rest) (done_taken c.args.text.now (behind_line (behind_line c.args.text.now)) v c.in-Some.ensures.known.0
    c.in-Some.ensures.known.1 go done_is)
