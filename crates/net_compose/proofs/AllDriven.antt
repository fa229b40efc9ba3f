-- The drivers of all nodes of a program's circuit, one list behind the other.
use Rattle.std.proofs.Common.{◌≡◌, ◌∙◌, ℕ, List, [], ◌∷◌, ◌++◌, ap, drop, take, length, append_assoc, refl}
use Rattle.prs_core.specs.Nets.{NodeRules}
use Rattle.prs_core.specs.Pairs.{no_rules}
use Rattle.width_check.specs.Processes.{TypedProgram}
use Rattle.handshake_expand.specs.Layout.{root_request, root_latch, body_from, go_node}
use Rattle.cell_sequence.specs.Sequence.{q_child, q_latch, q_next}
use Rattle.net_compose.specs.Translation.{all_rules, body_answer, channels_rules, vars_rules, rules_of}
use Rattle.net_compose.proofs.BodyDriven.{two_on}

drop_front : {X : Type 0} (xs ys : List X) → drop (length xs) (xs ++ ys) ≡ ys
drop_front [] ys = refl
drop_front (x ∷ xs) ys = drop_front xs ys

take_front : {X : Type 0} (xs ys : List X) → take (length xs) (xs ++ ys) ≡ xs
take_front [] ys = refl
take_front (x ∷ xs) ys = ap (λ l. x ∷ l) (take_front xs ys)

pub turned_over : {X : Type 0} (xs ys : List X) → drop (length xs) (xs ++ ys) ++ take (length xs) (xs ++ ys) ≡ ys ++ xs
turned_over xs ys = ap (λ l. l ++ take (length xs) (xs ++ ys)) (drop_front xs ys) ∙ ap (λ l. ys ++ l) (take_front xs ys)

-- the declared nodes, one after the other
pub ends_driven : (latch answer : ℕ) (inner d1 d2 d3 d4 wires blocks : List NodeRules) → d1 ≡ inner ++ no_rules ∷ []
    → d2 ≡ d1 ++ q_next latch answer ∷ [] → d3 ≡ d2 ++ wires → d4 ≡ d3 ++ blocks → d4 ≡ inner ++ no_rules ∷ q_next latch answer ∷ (wires ++ blocks)
ends_driven latch answer inner d1 d2 d3 d4 wires blocks e1 e2 e3 e4 =
    two_on inner d1 d4 (no_rules ∷ []) _ e1 (two_on d1 d2 d4 (q_next latch answer ∷ []) _ e2 (two_on d2 d3 d4 wires blocks e3 e4))

-- and those of the root behind them
pub declared_driven : (p : TypedProgram) (latch answer : ℕ) (inner d1 d2 d3 wires blocks : List NodeRules) → wires ≡ channels_rules p 0 p.channels
    → blocks ≡ vars_rules p 0 p.vars → d1 ≡ inner ++ no_rules ∷ q_next latch answer ∷ (wires ++ blocks)
    → d2 ≡ d1 ++ q_child go_node latch ∷ [] → d3 ≡ d2 ++ q_latch go_node answer ∷ []
    → d3 ≡ inner ++ no_rules ∷ q_next latch answer ∷ (channels_rules p 0 p.channels ++ (vars_rules p 0 p.vars
    ++ q_child go_node latch ∷ q_latch go_node answer ∷ []))
declared_driven p latch answer inner d1 d2 d3 wires blocks w b e1 e2 e3 =
    let ends = q_child go_node latch ∷ q_latch go_node answer ∷ [] in
    two_on inner d1 d3 (no_rules ∷ q_next latch answer ∷ (wires ++ blocks)) ends e1
    (two_on d1 d2 d3 (q_child go_node latch ∷ []) (q_latch go_node answer ∷ []) e2 e3)
    ∙ (ap (λ l. inner ++ no_rules ∷ q_next latch answer ∷ l) (append_assoc wires blocks ends)
    ∙ (ap (λ l. inner ++ no_rules ∷ q_next latch answer ∷ (l ++ (blocks ++ ends))) w
    ∙ ap (λ l. inner ++ no_rules ∷ q_next latch answer ∷ (channels_rules p 0 p.channels ++ (l ++ ends))) b))

-- those of the body are made first, and turned behind the others
pub all_driven : (p : TypedProgram) (latch answer own : ℕ) (inner whole turned : List NodeRules) → latch ≡ root_latch p → answer ≡ body_answer p
    → inner ≡ rules_of p p.body (root_request p) (body_from p) → own ≡ length inner
    → whole ≡ inner ++ no_rules ∷ q_next latch answer ∷ (channels_rules p 0 p.channels ++ (vars_rules p 0 p.vars
    ++ q_child go_node latch ∷ q_latch go_node answer ∷ []))
    → turned ≡ drop own whole ++ take own whole → turned ≡ all_rules p
all_driven p latch answer own inner whole turned latched answered body count both over =
    let channels = channels_rules p 0 p.channels in
    let vars = vars_rules p 0 p.vars in
    let ends = q_child go_node latch ∷ q_latch go_node answer ∷ [] in
    let declared = no_rules ∷ q_next latch answer ∷ (channels ++ (vars ++ ends)) in
    let first : turned ≡ declared ++ inner =
    over ∙ (ap (λ n. drop n whole ++ take n whole) count ∙ (ap (λ l. drop (length inner) l ++ take (length inner) l) both ∙ turned_over inner declared)) in
    first
    ∙ (ap (λ l. no_rules ∷ q_next latch answer ∷ l) (append_assoc channels (vars ++ ends) inner ∙ ap (λ l. channels ++ l) (append_assoc vars ends inner))
    ∙ (ap (λ n. no_rules ∷ q_next n answer ∷ (channels ++ (vars ++ (q_child go_node n ∷ q_latch go_node answer ∷ inner)))) latched
    ∙ (ap (λ n. no_rules ∷ q_next (root_latch p) n ∷ (channels ++ (vars ++ (q_child go_node (root_latch p) ∷ q_latch go_node n ∷ inner)))) answered
    ∙ ap (λ rs. no_rules ∷ q_next (root_latch p) (body_answer p) ∷ (channels ++ (vars ++ (q_child go_node (root_latch p)
    ∷ q_latch go_node (body_answer p) ∷ rs)))) body)))
