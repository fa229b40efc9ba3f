-- The drivers of what is declared, one declaration after another.
use Rattle.std.proofs.Common.{◌≡◌, ◌∙◌, ℕ, zero, suc, ◌+◌, ◌*◌, ◌<◌, ◌≤◌, List, [], ◌∷◌, ◌++◌, length, drop, refl, ap, arith}
use Rattle.std.specs.Prelude.{replicate}
use Rattle.std.specs.List.{flat_map}
use Rattle.std.proofs.lemmas.List.{drop_all}
use Rattle.chp_base.specs.declared.channel.Channel.{Channel}
use Rattle.chp_base.specs.declared.channel.Kind.{Kind}
use Rattle.chp_base.specs.declared.channel.Kind.TheVariants.{In, Out, Chan}
use Rattle.prs_core.specs.Nets.{NodeRules}
use Rattle.prs_core.specs.Pairs.{Pair, no_rules, or_of}
use Rattle.width_check.specs.declared.typed.Var.{Var}
use Rattle.width_check.specs.Processes.{TypedProgram}
use Rattle.width_check.specs.Typing.{channel_width, kind_at, var_width}
use Rattle.handshake_expand.specs.Layout.{var_from}
use Rattle.handshake_expand.specs.Sites.{in_body}
use Rattle.handshake_expand.proofs.Branches.{sites_more, sites_done}
use Rattle.cell_variable.specs.Variables.{variable_rules}
use Rattle.net_compose.specs.Translation.{wire_rules, channel_rules, channels_rules, rail_rules, vars_rules, send_site, receive_site, write_site}
use Rattle.net_compose.specs.Contacts.{ContactValue, every_contact, sent_by, taken_by, written_by}
use Rattle.net_compose.specs.declared.sorted.Sorted.{Sorted}
use Rattle.net_compose.specs.SortedContacts.{listed_at, AreSortedContacts, wires_by, blocks_by, contact_wires, contact_blocks}
use Rattle.net_compose.proofs.BodyDriven.{two_on}
use Rattle.net_compose.proofs.ContactsPicked.{sends_are, takes_are, writes_are}

module _ (cs : List Channel) (k w : ℕ) (wide : w ≡ channel_width cs k) (sent : List (List Pair)) (taken : List ℕ) (old mid new : List NodeRules) where
  kind_on : (kind : Kind) → kind ≡ kind_at cs k → new ≡ old ++ wire_rules sent taken w kind
      → new ≡ old ++ wire_rules sent taken (channel_width cs k) (kind_at cs k)
  kind_on kind is made = made ∙ (ap (λ q. old ++ wire_rules sent taken w q) is ∙ ap (λ n. old ++ wire_rules sent taken n (kind_at cs k)) wide)

  pub in_driven : (nodes : List ℕ) → In ≡ kind_at cs k → nodes ≡ taken → mid ≡ old ++ replicate (2 * w) no_rules → new ≡ mid ++ or_of nodes ∷ []
      → new ≡ old ++ wire_rules sent taken (channel_width cs k) (kind_at cs k)
  in_driven nodes is are first then = kind_on In is
      (two_on old mid new (replicate (2 * w) no_rules) (or_of taken ∷ []) first (then ∙ ap (λ ns. mid ++ or_of ns ∷ []) are))

  pub out_driven : (sites : List (List Pair)) → Out ≡ kind_at cs k → sites ≡ sent → mid ≡ old ++ rail_rules sites 0 w → new ≡ mid ++ no_rules ∷ []
      → new ≡ old ++ wire_rules sent taken (channel_width cs k) (kind_at cs k)
  out_driven sites is are first then = kind_on Out is
      (two_on old mid new (rail_rules sent 0 w) (no_rules ∷ []) (first ∙ ap (λ ss. old ++ rail_rules ss 0 w) are) then)

  pub chan_driven : (sites : List (List Pair)) (nodes : List ℕ) → Chan ≡ kind_at cs k → sites ≡ sent → nodes ≡ taken → mid ≡ old ++ rail_rules sites 0 w
      → new ≡ mid ++ or_of nodes ∷ [] → new ≡ old ++ wire_rules sent taken (channel_width cs k) (kind_at cs k)
  chan_driven sites nodes is are ends first then = kind_on Chan is
      (two_on old mid new (rail_rules sent 0 w) (or_of taken ∷ []) (first ∙ ap (λ ss. old ++ rail_rules ss 0 w) are)
      (then ∙ ap (λ ns. mid ++ or_of ns ∷ []) ends))

-- the first of the channels that are left, and of the variables

module _ (sent : ℕ → List (List Pair)) (taken : ℕ → List ℕ) where
  channels_front : (j : ℕ) (cs : List Channel) (k : ℕ) → k < length cs →
      wires_by sent taken j (drop k cs)
      ≡ wire_rules (sent j) (taken j) (channel_width cs k) (kind_at cs k) ++ wires_by sent taken (suc j) (drop (suc k) cs)
  channels_front j [] k within = absurd (omega arith)
  channels_front j (c ∷ cs) zero within = refl
  channels_front j (c ∷ cs) (suc k) within = channels_front j cs k (omega arith)

  pub channels_on : (cs : List Channel) (k : ℕ) (now new whole : List NodeRules) → k < length cs
      → new ≡ now ++ wire_rules (sent k) (taken k) (channel_width cs k) (kind_at cs k) → now ++ wires_by sent taken k (drop k cs) ≡ whole
      → new ++ wires_by sent taken (k + 1) (drop (k + 1) cs) ≡ whole
  channels_on cs k now new whole within made so_far =
      let one : suc k ≡ k + 1 = omega arith in
      let own = wire_rules (sent k) (taken k) (channel_width cs k) (kind_at cs k) in
      sites_more now new own (wires_by sent taken (k + 1) (drop (k + 1) cs)) (wires_by sent taken k (drop k cs)) whole made
      (channels_front k cs k within ∙ ap (λ n. own ++ wires_by sent taken n (drop n cs)) one) so_far

  pub channels_driven : (cs : List Channel) (k : ℕ) (now whole : List NodeRules) → length cs ≤ k → now ++ wires_by sent taken k (drop k cs) ≡ whole
      → now ≡ whole
  channels_driven cs k now whole over so_far = sites_done now _ whole (ap (wires_by sent taken k) (drop_all k cs over)) so_far

module _ (p : TypedProgram) (written : ℕ → List (List Pair)) where
  vars_front : (j : ℕ) (vs : List Var) (x : ℕ) → x < length vs →
      blocks_by p written j (drop x vs) ≡ variable_rules (var_width vs x) (var_from p j) (written j) ++ blocks_by p written (suc j) (drop (suc x) vs)
  vars_front j [] x within = absurd (omega arith)
  vars_front j (v ∷ vs) zero within = refl
  vars_front j (v ∷ vs) (suc x) within = vars_front j vs x (omega arith)

  pub vars_on : (vs : List Var) (x : ℕ) (now new whole : List NodeRules) → x < length vs
      → new ≡ now ++ variable_rules (var_width vs x) (var_from p x) (written x) → now ++ blocks_by p written x (drop x vs) ≡ whole
      → new ++ blocks_by p written (x + 1) (drop (x + 1) vs) ≡ whole
  vars_on vs x now new whole within made so_far =
      let one : suc x ≡ x + 1 = omega arith in
      let own = variable_rules (var_width vs x) (var_from p x) (written x) in
      sites_more now new own (blocks_by p written (x + 1) (drop (x + 1) vs)) (blocks_by p written x (drop x vs)) whole made
      (vars_front x vs x within ∙ ap (λ n. own ++ blocks_by p written n (drop n vs)) one) so_far

  pub vars_driven : (vs : List Var) (x : ℕ) (now whole : List NodeRules) → length vs ≤ x → now ++ blocks_by p written x (drop x vs) ≡ whole → now ≡ whole
  vars_driven vs x now whole over so_far = sites_done now _ whole (ap (blocks_by p written x) (drop_all x vs over)) so_far

-- where the same is sent, taken and written
pub wires_same : (sent sends : ℕ → List (List Pair)) (taken takes : ℕ → List ℕ) → ((k : ℕ) → sent k ≡ sends k) → ((k : ℕ) → taken k ≡ takes k)
    → (k : ℕ) (cs : List Channel) → wires_by sent taken k cs ≡ wires_by sends takes k cs
wires_same sent sends taken takes s t k [] = refl
wires_same sent sends taken takes s t k (c ∷ cs) =
    ap (λ ss. wire_rules ss (taken k) c.width c.kind ++ wires_by sent taken (suc k) cs) (s k)
    ∙ (ap (λ ns. wire_rules (sends k) ns c.width c.kind ++ wires_by sent taken (suc k) cs) (t k)
    ∙ ap (λ rs. wire_rules (sends k) (takes k) c.width c.kind ++ rs) (wires_same sent sends taken takes s t (suc k) cs))

pub blocks_same : (p : TypedProgram) (written writes : ℕ → List (List Pair)) → ((x : ℕ) → written x ≡ writes x) → (x : ℕ) (vs : List Var)
    → blocks_by p written x vs ≡ blocks_by p writes x vs
blocks_same p written writes w x [] = refl
blocks_same p written writes w x (v ∷ vs) =
    ap (λ ss. variable_rules v.width (var_from p x) ss ++ blocks_by p written (suc x) vs) (w x)
    ∙ ap (λ rs. variable_rules v.width (var_from p x) (writes x) ++ rs) (blocks_same p written writes w (suc x) vs)

-- those of contacts that were sorted

module _ (channels vars : ℕ) (contacts : List ContactValue) (sorted : Sorted) (are : AreSortedContacts channels vars contacts sorted) where
  pub sorted_wires : (k : ℕ) (cs : List Channel)
      → wires_by (λ i. listed_at sorted.sent.items i) (λ i. listed_at sorted.taken.items i) k cs ≡ contact_wires contacts k cs
  sorted_wires k cs = wires_same (λ i. listed_at sorted.sent.items i) (λ i. flat_map (sent_by i) contacts) (λ i. listed_at sorted.taken.items i)
      (λ i. flat_map (taken_by i) contacts) are.sent are.taken k cs

  pub sorted_blocks : (p : TypedProgram) (x : ℕ) (vs : List Var)
      → blocks_by p (λ y. listed_at sorted.written.items y) x vs ≡ contact_blocks p contacts x vs
  sorted_blocks p x vs = blocks_same p (λ y. listed_at sorted.written.items y) (λ y. flat_map (written_by y) contacts) are.written x vs

-- those of a program's body

program_wires : (p : TypedProgram) (k : ℕ) (cs : List Channel)
    → wires_by (λ i. in_body p (send_site i)) (λ i. in_body p (receive_site i)) k cs ≡ channels_rules p k cs
program_wires p k [] = refl
program_wires p k (c ∷ cs) = ap (λ rs. channel_rules p k c.width c.kind ++ rs) (program_wires p (suc k) cs)

program_blocks : (p : TypedProgram) (x : ℕ) (vs : List Var) → blocks_by p (λ y. in_body p (write_site p y)) x vs ≡ vars_rules p x vs
program_blocks p x [] = refl
program_blocks p x (v ∷ vs) = ap (λ rs. variable_rules v.width (var_from p x) (in_body p (write_site p x)) ++ rs) (program_blocks p (suc x) vs)

pub body_wires : (p : TypedProgram) (contacts : List ContactValue) → contacts ≡ in_body p (every_contact p) → (k : ℕ) (cs : List Channel)
    → contact_wires contacts k cs ≡ channels_rules p k cs
body_wires p contacts are k cs =
    ap (λ vs. contact_wires vs k cs) are
    ∙ (wires_same (λ i. flat_map (sent_by i) (in_body p (every_contact p))) (λ i. in_body p (send_site i))
    (λ i. flat_map (taken_by i) (in_body p (every_contact p))) (λ i. in_body p (receive_site i)) (sends_are p) (takes_are p) k cs
    ∙ program_wires p k cs)

pub body_blocks : (p : TypedProgram) (contacts : List ContactValue) → contacts ≡ in_body p (every_contact p) → (x : ℕ) (vs : List Var)
    → contact_blocks p contacts x vs ≡ vars_rules p x vs
body_blocks p contacts are x vs =
    ap (λ us. contact_blocks p us x vs) are
    ∙ (blocks_same p (λ y. flat_map (written_by y) (in_body p (every_contact p))) (λ y. in_body p (write_site p y)) (writes_are p) x vs
    ∙ program_blocks p x vs)
