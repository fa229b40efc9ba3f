-- The sites of the bodies of procedures and of a body with calls, by channel and by variable.
use Rattle.std.proofs.Common.{◌≡◌, ◌∙◌, ℕ, suc, ◌+◌, ◌<◌, true, false, List, [], ◌∷◌, ◌++◌, length, All, refl, ap}
use Rattle.std.specs.List.{flat_map}
use Rattle.std.proofs.lemmas.List.Concat.{flat_map-append}
use Rattle.std.proofs.lemmas.List.Elements.{All-nil, All-head, All-tail, All-append}
use Rattle.chp_base.specs.declared.channel.Channel.{Channel}
use Rattle.chp_base.specs.declared.channel.Kind.{Kind}
use Rattle.chp_base.specs.declared.channel.Kind.TheVariants.{In, Out, Chan}
use Rattle.width_check.specs.declared.typed.Var.{Var}
use Rattle.width_check.specs.Processes.{Process, TypedProgram}
use Rattle.width_check.specs.Typing.{IsProcess, AreProcesses, AreChoices}
use Rattle.handshake_expand.specs.Layout.{size_of, var_from}
use Rattle.handshake_expand.specs.Sites.{Sites, sites_in}
use Rattle.cell_variable.specs.Variables.{variable_rules}
use Rattle.net_compose.specs.Contacts.{ContactValue, every_contact, sent_by, taken_by, written_by}
use Rattle.net_compose.specs.SortedContacts.{IsDeclaredContact, wires_by, blocks_by, contact_wires, contact_blocks}
use Rattle.net_compose.specs.Translation.{send_site, receive_site, write_site, wire_rules}
use Rattle.net_compose.proofs.ContactsPicked.{sends_in, takes_in, writes_in}
use Rattle.net_compose.proofs.ContactsSorted.{statement_declared}
use Rattle.net_compose.proofs.DeclaredDriven.{wires_same, blocks_same}
use Rattle.handshake_expand.specs.Answers.{select_own, again_own}
use Rattle.call_map.specs.Calling.{Called, calling, atom, turned, abreast, chosen, looped, Calleds, no_calleds, and_called, CalledChoices, no_called, or_called, inlined, inlined_each, inlined_choices, called_size, called_bodies_from, called_sites, called_turn_sites, called_branch_sites, called_body_sites}
use Rattle.call_map.specs.CallNet.{CallProgram, inlined_program, procs_from, call_root, body_sites, all_sites, call_channel_rules, call_channels_rules, call_vars_rules}

-- what is picked of every site, where it is known of each statement
module _ {A B : Type 0} (p : TypedProgram) (pick : B → List A) (every : Sites B) (site : Sites A)
    (leaf : (s : Process) (from : ℕ) → flat_map pick (sites_in p every s from) ≡ sites_in p site s from) where
  two : (xs ys : List B) (us vs : List A) → flat_map pick xs ≡ us → flat_map pick ys ≡ vs → flat_map pick (xs ++ ys) ≡ us ++ vs
  two xs ys us vs h k = flat_map-append pick xs ys ∙ (ap (λ zs. zs ++ flat_map pick ys) h ∙ ap (λ zs. us ++ zs) k)

  bodies_picked : (bs : List Process) (from : ℕ) → flat_map pick (body_sites p every bs from) ≡ body_sites p site bs from
  bodies_picked [] from = refl
  bodies_picked (b ∷ bs) from =
      two (sites_in p every b (from + 1)) (body_sites p every bs (from + 1 + size_of p b)) (sites_in p site b (from + 1))
      (body_sites p site bs (from + 1 + size_of p b)) (leaf b (from + 1)) (bodies_picked bs (from + 1 + size_of p b))

  module _ (ps : List Process) where
    mutual
      called_picked : (x : Called) (from : ℕ) → flat_map pick (called_sites ps p every x from) ≡ called_sites ps p site x from
      called_picked (calling q) from = refl
      called_picked (atom s) from = leaf s from
      called_picked (turned members) from = turn_picked members from
      called_picked (abreast members) from = branches_picked members from
      called_picked (chosen false choices) from = choices_picked choices (called_bodies_from ps p choices select_own from)
      called_picked (chosen true choices) from = choices_picked choices (called_bodies_from ps p choices again_own from)
      called_picked (looped s) from = called_picked s (from + 2)

      turn_picked : (xs : Calleds) (from : ℕ) → flat_map pick (called_turn_sites ps p every xs from) ≡ called_turn_sites ps p site xs from
      turn_picked no_calleds from = refl
      turn_picked (and_called s no_calleds) from = called_picked s from
      turn_picked (and_called s (and_called t more)) from =
          let next = from + 3 + called_size ps p s in
          two (called_sites ps p every s (from + 3)) (called_turn_sites ps p every (and_called t more) next)
          (called_sites ps p site s (from + 3)) (called_turn_sites ps p site (and_called t more) next) (called_picked s (from + 3))
          (turn_picked (and_called t more) (from + 3 + called_size ps p s))

      branches_picked : (xs : Calleds) (from : ℕ) → flat_map pick (called_branch_sites ps p every xs from) ≡ called_branch_sites ps p site xs from
      branches_picked no_calleds from = refl
      branches_picked (and_called s more) from =
          let next = from + 3 + called_size ps p s in
          two (called_sites ps p every s (from + 3)) (called_branch_sites ps p every more next)
          (called_sites ps p site s (from + 3)) (called_branch_sites ps p site more next) (called_picked s (from + 3))
          (branches_picked more (from + 3 + called_size ps p s))

      choices_picked : (xs : CalledChoices) (from : ℕ) → flat_map pick (called_body_sites ps p every xs from) ≡ called_body_sites ps p site xs from
      choices_picked no_called from = refl
      choices_picked (or_called g s more) from =
          let next = from + called_size ps p s in
          two (called_sites ps p every s from) (called_body_sites ps p every more next)
          (called_sites ps p site s from) (called_body_sites ps p site more next) (called_picked s from)
          (choices_picked more (from + called_size ps p s))

-- of a whole program
module _ (C : CallProgram) where
  abbrev P : TypedProgram
  P = inlined_program C

  picked : {A B : Type 0} (pick : B → List A) (every : Sites B) (site : Sites A)
      → ((s : Process) (from : ℕ) → flat_map pick (sites_in P every s from) ≡ sites_in P site s from)
      → flat_map pick (all_sites C every) ≡ all_sites C site
  picked pick every site leaf =
      two P pick every site leaf (body_sites P every C.procs (procs_from C)) (called_sites C.procs P every C.body (call_root C + 2))
      (body_sites P site C.procs (procs_from C)) (called_sites C.procs P site C.body (call_root C + 2))
      (bodies_picked P pick every site leaf C.procs (procs_from C)) (called_picked P pick every site leaf C.procs C.body (call_root C + 2))

  wires_by_calls : (k : ℕ) (cs : List Channel)
      → wires_by (λ i. all_sites C (send_site i)) (λ i. all_sites C (receive_site i)) k cs ≡ call_channels_rules C k cs
  wires_by_calls k [] = refl
  wires_by_calls k (c ∷ cs) =
      ap (λ rs. wire_rules (all_sites C (send_site k)) (all_sites C (receive_site k)) c.width c.kind ++ rs) (wires_by_calls (suc k) cs)
      ∙ ap (λ rs. rs ++ call_channels_rules C (suc k) cs) (by_kind c.width c.kind)
    where
      by_kind : (width : ℕ) (kind : Kind)
          → wire_rules (all_sites C (send_site k)) (all_sites C (receive_site k)) width kind ≡ call_channel_rules C k width kind
      by_kind width In = refl
      by_kind width Out = refl
      by_kind width Chan = refl

  blocks_by_calls : (x : ℕ) (vs : List Var) → blocks_by P (λ y. all_sites C (write_site P y)) x vs ≡ call_vars_rules C x vs
  blocks_by_calls x [] = refl
  blocks_by_calls x (v ∷ vs) =
      ap (λ rs. variable_rules v.width (var_from P x) (all_sites C (write_site P x)) ++ rs) (blocks_by_calls (suc x) vs)

  pub called_wires : (k : ℕ) (cs : List Channel) → contact_wires (all_sites C (every_contact P)) k cs ≡ call_channels_rules C k cs
  called_wires k cs =
      wires_same (λ i. flat_map (sent_by i) (all_sites C (every_contact P))) (λ i. all_sites C (send_site i))
      (λ i. flat_map (taken_by i) (all_sites C (every_contact P))) (λ i. all_sites C (receive_site i))
      (λ i. picked (sent_by i) (every_contact P) (send_site i) (sends_in P i))
      (λ i. picked (taken_by i) (every_contact P) (receive_site i) (takes_in P i)) k cs
      ∙ wires_by_calls k cs

  pub called_blocks : (x : ℕ) (vs : List Var) → contact_blocks P (all_sites C (every_contact P)) x vs ≡ call_vars_rules C x vs
  called_blocks x vs =
      blocks_same P (λ y. flat_map (written_by y) (all_sites C (every_contact P))) (λ y. all_sites C (write_site P y))
      (λ y. picked (written_by y) (every_contact P) (write_site P y) (writes_in P y)) x vs
      ∙ blocks_by_calls x vs

-- all of them are on what is declared
module _ (p : TypedProgram) where
  abbrev Declared : List ContactValue → Type 0
  Declared vs = All (IsDeclaredContact (length p.channels) (length p.vars)) vs

  abbrev IsGood : Process → Type 0
  IsGood s = IsProcess p.channels p.vars s

  none : Declared []
  none = All-nil (IsDeclaredContact (length p.channels) (length p.vars))

  both : (vs ws : List ContactValue) → Declared vs → Declared ws → Declared (vs ++ ws)
  both vs ws h k = All-append (IsDeclaredContact (length p.channels) (length p.vars)) vs ws h k

  bodies_declared : (bs : List Process) (from : ℕ) → All IsGood bs → Declared (body_sites p (every_contact p) bs from)
  bodies_declared [] from h = none
  bodies_declared (b ∷ bs) from h =
      both (sites_in p (every_contact p) b (from + 1)) (body_sites p (every_contact p) bs (from + 1 + size_of p b))
      (statement_declared p b (from + 1) (All-head IsGood b bs h)) (bodies_declared bs (from + 1 + size_of p b) (All-tail IsGood b bs h))

  module _ (ps : List Process) where
    mutual
      called_declared : (x : Called) (from : ℕ) → IsProcess p.channels p.vars (inlined ps x) → Declared (called_sites ps p (every_contact p) x from)
      called_declared (calling q) from h = none
      called_declared (atom s) from h = statement_declared p s from h
      called_declared (turned members) from h = turn_declared members from h.1
      called_declared (abreast members) from h = branches_declared members from h.1
      called_declared (chosen false choices) from h = choices_declared choices (called_bodies_from ps p choices select_own from) h.2
      called_declared (chosen true choices) from h = choices_declared choices (called_bodies_from ps p choices again_own from) h.2
      called_declared (looped s) from h = called_declared s (from + 2) h

      turn_declared : (xs : Calleds) (from : ℕ) → AreProcesses p.channels p.vars (inlined_each ps xs)
          → Declared (called_turn_sites ps p (every_contact p) xs from)
      turn_declared no_calleds from h = none
      turn_declared (and_called s no_calleds) from h = called_declared s from h.0
      turn_declared (and_called s (and_called t more)) from h =
          both (called_sites ps p (every_contact p) s (from + 3)) (called_turn_sites ps p (every_contact p) (and_called t more)
          (from + 3 + called_size ps p s)) (called_declared s (from + 3) h.0) (turn_declared (and_called t more) (from + 3 + called_size ps p s) h.1)

      branches_declared : (xs : Calleds) (from : ℕ) → AreProcesses p.channels p.vars (inlined_each ps xs)
          → Declared (called_branch_sites ps p (every_contact p) xs from)
      branches_declared no_calleds from h = none
      branches_declared (and_called s more) from h =
          both (called_sites ps p (every_contact p) s (from + 3)) (called_branch_sites ps p (every_contact p) more (from + 3 + called_size ps p s))
          (called_declared s (from + 3) h.0) (branches_declared more (from + 3 + called_size ps p s) h.1)

      choices_declared : (xs : CalledChoices) (from : ℕ) → AreChoices p.channels p.vars (inlined_choices ps xs)
          → Declared (called_body_sites ps p (every_contact p) xs from)
      choices_declared no_called from h = none
      choices_declared (or_called g s more) from h =
          both (called_sites ps p (every_contact p) s from) (called_body_sites ps p (every_contact p) more (from + called_size ps p s))
          (called_declared s from h.1) (choices_declared more (from + called_size ps p s) h.2)

pub all_declared : (C : CallProgram) → All (IsProcess C.channels C.vars) C.procs → IsProcess C.channels C.vars (inlined C.procs C.body)
    → All (IsDeclaredContact (length C.channels) (length C.vars)) (all_sites C (every_contact (inlined_program C)))
all_declared C bodies body =
    let P = inlined_program C in
    both P (body_sites P (every_contact P) C.procs (procs_from C)) (called_sites C.procs P (every_contact P) C.body (call_root C + 2))
    (bodies_declared P C.procs (procs_from C) bodies) (called_declared P C.procs C.body (call_root C + 2) body)
