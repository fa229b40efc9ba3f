-- The lines that were read are the spelling of the net.
use Rattle.std.proofs.Common.{◌≡◌, ℕ, zero, suc, ◌<◌, ◌≤◌, Bool, true, false, List, [], ◌∷◌, ◌++◌, length, map, get_or, refl, ap, sym, ◌∙◌, arith}
use Rattle.std.specs.Prelude.{◌==◌, codes}
use Rattle.std.specs.List.{concat, flat_map, join_by, range_with_len}
use Rattle.std.proofs.lemmas.Bool.{eqb-true, eqb-false}
use Rattle.std.proofs.lemmas.List.{append_assoc, append-nil}
use Rattle.std.proofs.lemmas.List.Concat.{flat_map-append}
use Rattle.std.proofs.lemmas.List.Folds.{flat_map-map}
use Rattle.std.proofs.lemmas.List.FromFn.{fill_by_all}
use Rattle.prs_core.specs.declared.rule.Literal.{Literal}
use Rattle.prs_core.specs.declared.wires.Wires.{Wires}
use Rattle.prs_core.specs.Nets.{GuardValue, RulesValue, NetValue, name_at, first_at}
use Rattle.prs_file.specs.ChannelsTold.{channels_told}
use Rattle.prs_file.specs.Named.{signed_by, guard_named}
use Rattle.prs_file.specs.NodesTold.{node_forms, nodes_told}
use Rattle.prs_file.specs.Openings.{opening, text_behind}
use Rattle.prs_file.specs.Reading.{Form, Signed, signed_spelling, form_spelling}
use Rattle.prs_file.specs.Reading.Form.{head, node, channel, rule}
use Rattle.prs_file.specs.Spelling.{version_of, head_spelling, node_spelling, channel_spelling, literal_spelling, term_spelling, guard_spelling, end_spelling, rule_spelling, rules_spelling, spelling, NetText}
use Rattle.prs_file.specs.Tables.{guard_forms, node_rules, rule_forms, net_forms, reset_by}
use Rattle.prs_file.proofs.NetMade.{net_read}
use Rattle.prs_file.proofs.NodesRead.{count_forms}

-- the lines of nodes

form_at : (names : List (List ℕ)) (first : List Bool) (k : ℕ) (d : Form) → length first ≡ length names → k < length names →
    get_or (node_forms names first) k d ≡ node (get_or names k []) (get_or first k false)
form_at [] first k d same within = absurd (omega arith)
form_at (n ∷ names) [] k d same within = absurd (omega arith)
form_at (n ∷ names) (v ∷ first) zero d same within = refl
form_at (n ∷ names) (v ∷ first) (suc k) d same within = form_at names first k d (omega arith) (omega arith)

nodes_spelled : (names : List (List ℕ)) (first : List Bool) → length first ≡ length names →
    flat_map form_spelling (node_forms names first) ≡ flat_map (λ k. node_spelling (get_or names k []) (get_or first k false)) (range_with_len 0 (length first))
nodes_spelled names first same =
    let f : ℕ → Form = λ k. node (get_or names k []) (get_or first k false) in
    ap (flat_map form_spelling) (fill_by_all f (node_forms names first) (length first) (head 1) (omega (arith, count_forms names first same))
    (λ k within. form_at names first k (head 1) same (omega arith))) ∙ flat_map-map form_spelling f (range_with_len 0 (length first))

-- the lines of rules

each_same : {X : Type 0} (f g : X → List ℕ) (xs : List X) → ((x : X) → f x ≡ g x) → flat_map f xs ≡ flat_map g xs
each_same f g [] same = refl
each_same f g (x ∷ xs) same = ap (λ t. t ++ flat_map f xs) (same x) ∙ ap (λ t. g x ++ t) (each_same f g xs same)

term_spelled : (n : NetValue) (t : List Literal) → join_by signed_spelling (codes " & ") (map (signed_by n.names) t) ≡ term_spelling n t
term_spelled n [] = refl
term_spelled n (l ∷ t) =
    ap (λ x. literal_spelling n l ++ x) (flat_map-map (λ (s : Signed). codes " & " ++ signed_spelling s) (signed_by n.names) t)

guard_spelled : (n : NetValue) (g : GuardValue) → join_by (join_by signed_spelling (codes " & ")) (codes " | ") (guard_named n.names g) ≡ guard_spelling n g
guard_spelled n [] = refl
guard_spelled n (t ∷ g) =
    ap (λ x. x ++ flat_map (λ (s : List Signed). codes " | " ++ join_by signed_spelling (codes " & ") s) (guard_named n.names g)) (term_spelled n t)
    ∙ ap (λ x. term_spelling n t ++ x) (flat_map-map (λ (s : List Signed). codes " | " ++ join_by signed_spelling (codes " & ") s) (map (signed_by n.names)) g
    ∙ each_same (λ t. codes " | " ++ join_by signed_spelling (codes " & ") (map (signed_by n.names) t)) (λ t. codes " | " ++ term_spelling n t) g
    (λ t. ap (λ x. codes " | " ++ x) (term_spelled n t)))

rule_spelled : (n : NetValue) (g : GuardValue) (k : ℕ) (up : Bool) → flat_map form_spelling (guard_forms n.names g k up) ≡ rule_spelling n g k up
rule_spelled n [] k up = refl
rule_spelled n (t ∷ g) k up =
    append-nil (form_spelling (rule (guard_named n.names (t ∷ g)) (get_or n.names k []) up))
    ∙ ap (λ x. concat (codes "rule " ∷ x ∷ end_spelling (get_or n.names k []) up ∷ [])) (guard_spelled n (t ∷ g))

node_spelled : (n : NetValue) (k : ℕ) → flat_map form_spelling (node_rules n.names (record { up = n.up; down = n.down }) k) ≡ rules_spelling n k
node_spelled n k =
    flat_map-append form_spelling (guard_forms n.names (get_or n.up k []) k true) (guard_forms n.names (get_or n.down k []) k false)
    ∙ ap (λ x. x ++ flat_map form_spelling (guard_forms n.names (get_or n.down k []) k false)) (rule_spelled n (get_or n.up k []) k true)
    ∙ ap (λ x. rule_spelling n (get_or n.up k []) k true ++ x) (rule_spelled n (get_or n.down k []) k false)

nested : {X Y : Type 0} (f : Y → List ℕ) (g : X → List Y) (xs : List X) → flat_map f (flat_map g xs) ≡ flat_map (λ x. flat_map f (g x)) xs
nested f g [] = refl
nested f g (x ∷ xs) = flat_map-append f (g x) (flat_map g xs) ∙ ap (λ t. flat_map f (g x) ++ t) (nested f g xs)

rules_spelled : (n : NetValue) → length n.first ≡ length n.names → flat_map form_spelling (rule_forms n.names (record { up = n.up; down = n.down })) ≡
    flat_map (rules_spelling n) (range_with_len 0 (length n.first))
rules_spelled n same =
    let r : RulesValue = record { up = n.up; down = n.down } in
    nested form_spelling (node_rules n.names r) (range_with_len 0 (length n.names))
    ∙ each_same (λ k. flat_map form_spelling (node_rules n.names r k)) (rules_spelling n) (range_with_len 0 (length n.names)) (node_spelled n)
    ∙ ap (λ c. flat_map (rules_spelling n) (range_with_len 0 c)) (sym same)

head_spelled : (version : ℕ) (first : List Bool) → 1 ≤ version → version ≤ 2 →
    head_spelling version ≡ head_spelling (version_of (reset_by (version == 2) first))
head_spelled version first some most = ap head_spelling (by_version (version == 2) refl)
  where
    by_version : (b : Bool) → (version == 2) ≡ b → version ≡ version_of (reset_by b first)
    by_version true is = eqb-true version 2 is
    by_version false is = let apart = eqb-false version 2 is in omega (arith, apart)

-- the whole text
pub net_spelled : (version : ℕ) (names : List (List ℕ)) (first : List Bool) (ws : List Wires) (rules : RulesValue) → length first ≡ length names → 1 ≤ version →
    version ≤ 2 → flat_map form_spelling (net_forms version names first ws rules) ≡ spelling (net_read version names first rules ws)
net_spelled version names first ws rules same some most =
    let n = net_read version names first rules ws in
    let nodes = node_forms names first in
    let channels = map (λ (w : Wires). channel w.channel) ws in
    flat_map-append form_spelling (channels_told version names first ws) (rule_forms names rules)
    ∙ ap (λ t. t ++ flat_map form_spelling (rule_forms names rules)) (ap (λ t. head_spelling version ++ t) (flat_map-append form_spelling nodes channels))
    ∙ ap (λ t. (head_spelling version ++ (flat_map form_spelling nodes ++ flat_map form_spelling channels)) ++ t) (rules_spelled n same)
    ∙ ap (λ t. (head_spelling version ++ (t ++ flat_map form_spelling channels)) ++ flat_map (rules_spelling n) (range_with_len 0 (length first)))
    (nodes_spelled names first same)
    ∙ ap (λ t. (head_spelling version ++ (flat_map (λ k. node_spelling (name_at n k) (first_at n k)) (range_with_len 0 (length first)) ++ t))
    ++ flat_map (rules_spelling n) (range_with_len 0 (length first))) (flat_map-map form_spelling (λ (w : Wires). channel w.channel) ws)
    ∙ whole (head_spelling version) (flat_map (λ k. node_spelling (name_at n k) (first_at n k)) (range_with_len 0 (length first)))
    (flat_map (λ (w : Wires). channel_spelling w.channel) ws) (flat_map (rules_spelling n) (range_with_len 0 (length first)))
    ∙ ap (λ h. concat (h ∷ flat_map (λ k. node_spelling (name_at n k) (first_at n k)) (range_with_len 0 (length first))
    ∷ flat_map (λ (w : Wires). channel_spelling w.channel) ws ∷ flat_map (rules_spelling n) (range_with_len 0 (length first)) ∷ []))
    (head_spelled version first some most)
  where
    whole : (a b d e : List ℕ) → (a ++ (b ++ d)) ++ e ≡ a ++ (b ++ (d ++ (e ++ [])))
    whole a b d e = append_assoc a (b ++ d) e ∙ ap (λ t. a ++ t) (append_assoc b d e ∙ ap (λ t. b ++ (d ++ t)) (sym (append-nil e)))

pub text_is : (version : ℕ) (names : List (List ℕ)) (first : List Bool) (ws : List Wires) (rules : RulesValue) (text t1 t2 t3 : List ℕ) →
    text ≡ text_behind (opening version) t1 → text_behind (opening version) t1 ≡ text_behind (nodes_told version names first) t2 →
    text_behind (nodes_told version names first) t2 ≡ text_behind (channels_told version names first ws) t3 →
    text_behind (channels_told version names first ws) t3 ≡ flat_map form_spelling (net_forms version names first ws rules) ++ [] →
    length first ≡ length names → 1 ≤ version → version ≤ 2 → NetText text (net_read version names first rules ws)
text_is version names first ws rules text t1 t2 t3 e1 e2 e3 e4 same some most =
    e1 ∙ e2 ∙ e3 ∙ e4 ∙ append-nil (flat_map form_spelling (net_forms version names first ws rules)) ∙ net_spelled version names first ws rules same some most
