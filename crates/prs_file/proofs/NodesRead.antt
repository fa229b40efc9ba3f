-- The lines of nodes one after another.
use Rattle.std.proofs.Common.{◌≡◌, ◌≢◌, ℕ, zero, suc, ◌+◌, ◌<◌, ◌≤◌, Bool, true, false, cond, Option, None, Some, List, [], ◌∷◌, ◌++◌, length, get_or, refl, ap, sym, ◌∙◌, inl, inr, arith}
use Rattle.std.specs.Prelude.{◌⊎◌, not, ◌==◌, nat_lt, bytes_eq, codes, position, is_none, is_some, option_map, if◌then◌else◌}
use Rattle.std.specs.List.{position_or_len}
use Rattle.std.specs.Cmp.Lexicographic.{bytes_decides}
use Rattle.std.proofs.lemmas.Bool.{cases_lt, lt-ltb, le-ltb, ltb-false, and_left, and_right, ne_eqb, both_ways}
use Rattle.std.proofs.lemmas.List.{length_push, get_or_append_left}
use Rattle.std.proofs.lemmas.List.Elements.{All-push, All-cons, All-nil}
use Rattle.std.proofs.lemmas.List.Quantifiers.{all_pairs_push}
use Rattle.chp_base.specs.Names.{IsNodeName}
use Rattle.prs_file.specs.declared.fault.NetFault.{NetFault}
use Rattle.prs_file.specs.declared.fault.NetFault.TheVariants.{BadLine, DoubleName, TooMany}
use Rattle.prs_file.specs.Indexes.{place_in}
use Rattle.prs_file.specs.Lines.{first_line}
use Rattle.prs_file.specs.NodesTold.{node_forms, nodes_told, node_most, IsNodes, IsNodesRead, node_fault_of}
use Rattle.prs_file.specs.Openings.{opening, text_behind}
use Rattle.prs_file.specs.Spelling.{node_spelling}
use Rattle.prs_file.specs.Reading.{Form, Says, last_of, ends_nodes, may_stand, may_end, form_fault, told_nodes, AllStand, IsRefused}
use Rattle.prs_file.specs.Reading.Form.{head, node, channel, rule}
use Rattle.prs_file.proofs.Taking.{taken_more, refused_here, not_here, fault_here}

position_cases : {X : Type 0} (p : X → Bool) (x : X) (xs : List X) (b : Bool) → p x ≡ b →
    position p (x ∷ xs) ≡ cond b (Some 0) (option_map (λ k. suc k) (position p xs))
position_cases p x xs true is = rw is (ap (λ t. cond t (Some 0) None) (lt-ltb 0 (suc (length xs)) (omega arith)))
position_cases p x xs false is = rw is (by_order (cases_lt (position_or_len p xs) (length xs)))
  where
    by_order : (position_or_len p xs < length xs) ⊎ (length xs ≤ position_or_len p xs) →
        cond (nat_lt (1 + position_or_len p xs) (suc (length xs))) (Some (1 + position_or_len p xs)) None ≡ option_map (λ k. suc k) (position p xs)
    by_order (inl below) = rw (lt-ltb (1 + position_or_len p xs) (suc (length xs)) (omega arith), lt-ltb (position_or_len p xs) (length xs) below)
        (ap Some (omega arith))
    by_order (inr past) = rw (le-ltb (1 + position_or_len p xs) (suc (length xs)) (omega arith), le-ltb (position_or_len p xs) (length xs) past) refl

-- the number of a node in the lines is its place among the names
pub number_is : (names : List (List ℕ)) (first : List Bool) (name : List ℕ) → length first ≡ length names →
    position (λ (n : List ℕ × Bool). bytes_eq n.0 name) (told_nodes (node_forms names first)) ≡ place_in names name
number_is [] first name count = refl
number_is (n ∷ names) [] name count = absurd (omega arith)
number_is (n ∷ names) (v ∷ first) name count =
    position_cases (λ (n : List ℕ × Bool). bytes_eq n.0 name) (n, v) (told_nodes (node_forms names first)) (bytes_eq n name) refl
    ∙ ap (λ o. cond (bytes_eq n name) (Some 0) (option_map (λ k. suc k) o)) (number_is names first name (omega arith))

pub forms_push : (names : List (List ℕ)) (first : List Bool) (n : List ℕ) (v : Bool) → length first ≡ length names →
    node_forms (names ++ n ∷ []) (first ++ v ∷ []) ≡ node_forms names first ++ node n v ∷ []
forms_push [] [] n v count = refl
forms_push [] (w ∷ first) n v count = absurd (omega arith)
forms_push (m ∷ names) [] n v count = absurd (omega arith)
forms_push (m ∷ names) (w ∷ first) n v count = ap (λ fs. node m w ∷ fs) (forms_push names first n v (omega arith))

pub last_push : (fs : List Form) (f : Form) → last_of (fs ++ f ∷ []) ≡ Some f
last_push [] f = refl
last_push (g ∷ []) f = refl
last_push (g ∷ h ∷ fs) f = last_push (h ∷ fs) f

pub count_forms : (names : List (List ℕ)) (first : List Bool) → length first ≡ length names → length (node_forms names first) ≡ length names
count_forms [] first count = refl
count_forms (n ∷ names) [] count = absurd (omega arith)
count_forms (n ∷ names) (v ∷ first) count = omega (arith, count_forms names first (omega arith))

pub count_nodes : (names : List (List ℕ)) (first : List Bool) → length first ≡ length names → length (told_nodes (node_forms names first)) ≡ length names
count_nodes [] first count = refl
count_nodes (n ∷ names) [] count = absurd (omega arith)
count_nodes (n ∷ names) (v ∷ first) count = omega (arith, count_nodes names first (omega arith))

none_of_rest : (b : Bool) (o : Option ℕ) → cond b (Some 0) (option_map (λ k. suc k) o) ≡ None → (b ≡ false) × (o ≡ None)
none_of_rest true o e = absurd (cc e)
none_of_rest false None e = (refl, refl)
none_of_rest false (Some k) e = absurd (cc e)

pub fresh_apart : (names : List (List ℕ)) (name : List ℕ) → place_in names name ≡ None → (k : ℕ) (d : List ℕ) → k < length names → get_or names k d ≢ name
fresh_apart [] name fresh k d within = absurd (omega arith)
fresh_apart (n ∷ names) name fresh zero d within = λ same. both_ways (bytes_eq n name) (none_of_rest _ _ fresh).0 ((bytes_decides n name).1 same)
fresh_apart (n ∷ names) name fresh (suc k) d within = fresh_apart names name (none_of_rest (bytes_eq n name) _ fresh).1 k d (omega arith)

fault_cases : (o : Option ℕ) (most count : ℕ) → (if not (is_none o) then Some DoubleName else (if nat_lt most count then Some TooMany else None)) ≡
    (if is_some o then Some DoubleName else (if nat_lt most count then Some TooMany else None))
fault_cases None most count = refl
fault_cases (Some k) most count = refl

-- the fault of a node's line, by the names so far
pub node_fault_is : (version : ℕ) (names : List (List ℕ)) (first : List Bool) (name : List ℕ) (value : Bool) → length first ≡ length names →
    form_fault (nodes_told version names first) (node name value) ≡ node_fault_of version names name
node_fault_is version names first name value count =
    rw (number_is names first name count, count_nodes names first count) (fault_cases (place_in names name) (node_most version) (length names + 1))

pub told_length : (version : ℕ) (names : List (List ℕ)) (first : List Bool) → IsNodes version names first →
    length (nodes_told version names first) ≡ length names + 1
told_length version names first nodes = omega (arith, count_forms names first nodes.count)

pub past_third : (version : ℕ) (names : List (List ℕ)) (first : List Bool) → IsNodes version names first →
    (length (nodes_told version names first) == 2) ≡ false
past_third version names first nodes = ne_eqb _ 2 (λ e. absurd (omega (arith, told_length version names first nodes, nodes.some)))

node_stands : (version : ℕ) (names : List (List ℕ)) (first : List Bool) (ends : Bool) (text rest name : List ℕ) (value : Bool) →
    IsNodesRead version names first ends text rest → may_stand (nodes_told version names first) (node name value) ≡ true
node_stands version names first ends text rest name value read =
    rw (read.last.2, past_third version names first read.nodes) refl

node_long : (name : List ℕ) (value : Bool) (rest : List ℕ) → first_line rest ≡ node_spelling name value → 0 < length rest
node_long name value [] says = absurd (cc says)
node_long name value (b ∷ rest) says = omega arith

pub node_refused : (version : ℕ) (names : List (List ℕ)) (first : List Bool) (ends : Bool) (text rest name : List ℕ) (value : Bool) (fault : NetFault)
    (line : ℕ) → IsNodesRead version names first ends text rest → first_line rest ≡ node_spelling name value → IsNodeName name →
    node_fault_of version names name ≡ Some fault → line ≡ length names + 2 → IsRefused text fault line
node_refused version names first ends text rest name value fault line read says named bad number =
    refused_here text (nodes_told version names first) rest fault line read.taken
    (fault_here (nodes_told version names first) (node name value) rest fault (node_long name value rest says) says named
    (node_stands version names first ends text rest name value read) (node_fault_is version names first name value read.nodes.count ∙ bad))
    (omega (arith, told_length version names first read.nodes))

no_fault : (version : ℕ) (names : List (List ℕ)) (name : List ℕ) → node_fault_of version names name ≡ None →
    (place_in names name ≡ None) × (length names + 1 ≤ node_most version)
no_fault version names name good = by_cases (place_in names name) (nat_lt (node_most version) (length names + 1)) refl refl good
  where
    by_cases : (o : Option ℕ) (b : Bool) → place_in names name ≡ o → nat_lt (node_most version) (length names + 1) ≡ b →
        (if is_some o then Some DoubleName else (if b then Some TooMany else None)) ≡ None →
        (place_in names name ≡ None) × (length names + 1 ≤ node_most version)
    by_cases None false is at e = (is, ltb-false _ _ at)
    by_cases None true is at e = absurd (cc e)
    by_cases (Some k) b is at e = absurd (cc e)

pub nodes_more : (version : ℕ) (names : List (List ℕ)) (first : List Bool) (ends now : Bool) (text rest name behind : List ℕ) (value : Bool) →
    IsNodesRead version names first ends text rest → first_line rest ≡ node_spelling name value → rest ≡ first_line rest ++ behind → IsNodeName name →
    node_fault_of version names name ≡ None → now ≡ ends_nodes (version == 2) (Some (node name value)) →
    IsNodesRead version (names ++ name ∷ []) (first ++ value ∷ []) now text behind
nodes_more version names first ends now text rest name behind value read says whole named good is =
    let parts = no_fault version names name good in
    let told : nodes_told version (names ++ name ∷ []) (first ++ value ∷ []) ≡ nodes_told version names first ++ node name value ∷ [] =
    ap (λ fs. head version ∷ fs) (forms_push names first name value read.nodes.count) in
    let last : last_of (nodes_told version (names ++ name ∷ []) (first ++ value ∷ [])) ≡ Some (node name value) =
    ap last_of told ∙ last_push (nodes_told version names first) (node name value) in
    let some = read.nodes.some in
    record {
      taken = rw told (taken_more text (nodes_told version names first) (node name value) rest (first_line rest) behind read.taken whole says named
          (node_stands version names first ends text rest name value read) (node_fault_is version names first name value read.nodes.count ∙ good));
      nodes = record {
        count = omega (arith, length_push first value, length_push names name, read.nodes.count);
        some = omega (arith, length_push names name);
        most = rw length_push parts.1;
        named = All-push IsNodeName names name read.nodes.named named;
        distinct = all_pairs_push (λ (a b : List ℕ). a ≢ b) names name read.nodes.distinct (fresh_apart names name parts.0);
        go = get_or_append_left names (name ∷ []) [] 0 (omega arith) ∙ read.nodes.go;
        go_low = get_or_append_left first (value ∷ []) false 0 (omega (arith, read.nodes.count)) ∙ read.nodes.go_low;
        done = get_or_append_left names (name ∷ []) [] 1 (omega arith) ∙ read.nodes.done;
        done_low = get_or_append_left first (value ∷ []) false 1 (omega (arith, read.nodes.count)) ∙ read.nodes.done_low;
      };
      ends = ap (ends_nodes (version == 2)) last ∙ sym is;
      last = (name, value, last);
    }

not_ended : (version : ℕ) (names : List (List ℕ)) (first : List Bool) (text rest : List ℕ) → IsNodesRead version names first false text rest →
    ((name : List ℕ) (value : Bool) → IsNodeName name → first_line rest ≡ node_spelling name value → ⊥) → (f : Form) → Says (first_line rest) f →
    may_stand (nodes_told version names first) f ≡ false
not_ended version names first text rest read over (head v) says = rw read.last.2 refl
not_ended version names first text rest read over (node name value) says = absurd (over name value says.form says.spelled)
not_ended version names first text rest read over (channel c) says =
    let shut : ends_nodes (version == 2) (Some (node read.last.0 read.last.1)) ≡ false = sym (ap (ends_nodes (version == 2)) read.last.2) ∙ read.ends in
    rw read.last.2 (and_left _ _ shut)
not_ended version names first text rest read over (rule g name up) says =
    let shut : ends_nodes (version == 2) (Some (node read.last.0 read.last.1)) ≡ false = sym (ap (ends_nodes (version == 2)) read.last.2) ∙ read.ends in
    rw read.last.2 (and_left _ _ shut)

may_not_end : (version : ℕ) (names : List (List ℕ)) (first : List Bool) (text rest : List ℕ) → IsNodesRead version names first false text rest →
    may_end (nodes_told version names first) ≡ false
may_not_end version names first text rest read =
    let shut : ends_nodes (version == 2) (Some (node read.last.0 read.last.1)) ≡ false = sym (ap (ends_nodes (version == 2)) read.last.2) ∙ read.ends in
    rw read.last.2 (and_right (nat_lt 2 (length (nodes_told version names first))) _ shut)

pub nodes_refused : (version : ℕ) (names : List (List ℕ)) (first : List Bool) (text rest : List ℕ) (line : ℕ) → IsNodesRead version names first false text rest
    → ((name : List ℕ) (value : Bool) → IsNodeName name → first_line rest ≡ node_spelling name value → ⊥) → line ≡ length names + 2 →
    IsRefused text BadLine line
nodes_refused version names first text rest line read over number =
    refused_here text (nodes_told version names first) rest BadLine line read.taken
    (not_here (nodes_told version names first) rest (λ at. absurd (cc at.0)) (not_ended version names first text rest read over)
    (may_not_end version names first text rest read)) (omega (arith, told_length version names first read.nodes))

-- the first two nodes
pub nodes_begin : (version : ℕ) (names : List (List ℕ)) (first : List Bool) (ends : Bool) (text : List ℕ) → names ≡ codes "go" ∷ codes "done" ∷ [] →
    first ≡ false ∷ false ∷ [] → ends ≡ ends_nodes (version == 2) (Some (node (codes "done") false)) → AllStand [] (opening version) →
    IsNodesRead version names first ends (text_behind (opening version) text) text
nodes_begin version names first ends text is low at stand = rw (is, low) (record {
  taken = record { told = refl; stand = stand };
  nodes = record {
    count = refl;
    some = omega arith;
    most = by_version (version == 2);
    named = All-cons IsNodeName (codes "go") (codes "done" ∷ []) (record { short = omega arith; first = refl; parts = refl })
        (All-cons IsNodeName (codes "done") [] (record { short = omega arith; first = refl; parts = refl }) (All-nil IsNodeName));
    distinct = all_pairs_push (λ (a b : List ℕ). a ≢ b) (codes "go" ∷ []) (codes "done") (λ i j d below within. absurd (omega arith))
        (fresh_apart (codes "go" ∷ []) (codes "done") refl);
    go = refl;
    go_low = refl;
    done = refl;
    done_low = refl;
  };
  ends = sym at;
  last = (codes "done", false, refl);
})
  where
    by_version : (b : Bool) → 2 ≤ cond b 65537 65536
    by_version true = omega arith
    by_version false = omega arith

pub most_small : (version : ℕ) → node_most version ≤ 65537
most_small version = by_version (version == 2)
  where
    by_version : (b : Bool) → cond b 65537 65536 ≤ 65537
    by_version true = omega arith
    by_version false = omega arith
