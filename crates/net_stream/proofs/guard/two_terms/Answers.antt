use Rattle.std.proofs.Common.{◌<◌, List, length, [], ◌∷◌, ◌++◌, All}
use Rattle.std.proofs.lemmas.List.Elements.{All-nil, All-cons, All-head, All-tail}
use Rattle.std.proofs.lemmas.Result.{IfOk-weaker, on_err_weaker, err_from_is_err_and}
use Rattle.prs_core.specs.declared.rule.Literal.{Literal}
use Rattle.prs_file.specs.declared.forms.Lead.TheVariants.{Rule}
use Rattle.net_compose.specs.Circuits.{with_ends}
use Rattle.net_stream.proofs.Puts.{put_more, room_first, room_second}
use Rattle.net_stream.proofs.guard.two_terms.Goals as goal

pub term_text-requires-clause-within : goal.term_text-requires-clause-within
term_text-requires-clause-within c =
    let near = λ (t : List Literal). All (λ (l : Literal). l.node < length c.args.net.now.first) t in
    All-cons near (c.args.first.now ++ []) [] (All-head near (c.args.first.now ++ []) ((c.args.second.now ++ []) ∷ []) c.requires.within) (All-nil near)

pub term_text-requires-2-clause-within : goal.term_text-requires-2-clause-within
term_text-requires-2-clause-within c =
    let near = λ (t : List Literal). All (λ (l : Literal). l.node < length c.args.net.now.first) t in
    All-tail near (c.args.first.now ++ []) ((c.args.second.now ++ []) ∷ []) c.requires.within

pub returns-in_err-next-clause-room : goal.returns-in_err-next-clause-room
returns-in_err-next-clause-room c =
    let p = err_from_is_err_and c.from_residual.result c.from_residual.ensures.1 in
    rw p.1 (room_first (with_ends c.args.ending ((c.args.first.now ++ []) ∷ [])) (with_ends c.args.ending ((c.args.second.now ++ []) ∷ [])) _ _
    c.in_err-next.ensures.room)

pub returns-clause-put : goal.returns-clause-put
returns-clause-put c =
    IfOk-weaker c.term_text-2.result _ _ (λ next h. put_more c.args.net.now Rule c.in_ok-next.next next
    (with_ends c.args.ending ((c.args.first.now ++ []) ∷ [])) (with_ends c.args.ending ((c.args.second.now ++ []) ∷ [])) _ _ _ _ _ _
    c.in_ok-next.ensures.put h) c.term_text-2.ensures.put

pub returns-clause-room : goal.returns-clause-room
returns-clause-room c =
    on_err_weaker c.term_text-2.result (λ full. room_second c.args.net.now Rule c.in_ok-next.next
    (with_ends c.args.ending ((c.args.first.now ++ []) ∷ [])) (with_ends c.args.ending ((c.args.second.now ++ []) ∷ [])) _ _ _ _ _ _
    c.in_ok-next.ensures.put full c.term_text.ensures.capacity) c.term_text-2.ensures.room
