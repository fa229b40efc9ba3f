-- Blocks to which sites are added, one after another.
use Rattle.std.proofs.Common.{◌≡◌, ◌≢◌, ℕ, zero, suc, ◌+◌, ◌<◌, ◌≤◌, ◌==◌, Bool, true, false, List, [], ◌∷◌, ◌++◌, length, get_or, drop, map, refl, sym, ap, ◌∙◌, arith, append_assoc}
use Rattle.std.specs.Prelude.{slice_set, if◌then◌else◌}
use Rattle.std.proofs.lemmas.Bool.{eq-eqb, eqb-true}
use Rattle.std.proofs.lemmas.List.{map-set, map-append, length-map, get_or-map, drop_more, drop_all, append-nil}
use Rattle.chp_base.specs.declared.channel.Channel.{Channel}
use Rattle.width_check.specs.declared.typed.Var.{Var}
use Rattle.width_check.specs.Processes.{TypedProgram}
use Rattle.handshake_expand.specs.declared.parts.Block.{Block}
use Rattle.handshake_expand.specs.declared.site.SiteNode.{SiteNode}
use Rattle.handshake_expand.specs.declared.site.SiteKind.{SiteKind}
use Rattle.handshake_expand.specs.declared.site.SiteKind.TheVariants.{Send, Receive, Write}
use Rattle.handshake_expand.specs.Expansions.{BlockValue, block_value, same_kind, nodes_at, channel_block, var_block, blocks_from, channel_blocks, var_blocks}
use Rattle.handshake_expand.specs.Layout.{wires_before, blocks_before}

-- lists of blocks that differ at one place, or nowhere
module _ {A : Type 0} (f g : ℕ → A → BlockValue) where
  same_blocks : (n : ℕ) (xs : List A) → ((m : ℕ) (x : A) → n ≤ m → m < n + length xs → f m x ≡ g m x) → blocks_from f n xs ≡ blocks_from g n xs
  same_blocks n [] each = refl
  same_blocks n (x ∷ xs) each =
      ap (λ b. b ∷ blocks_from f (suc n) xs) (each n x (omega arith) (omega arith))
      ∙ ap (λ bs. g n x ∷ bs) (same_blocks (suc n) xs (λ m y low high. each m y (omega (arith, low)) (omega (arith, high))))

  set_blocks : (n i k : ℕ) (xs : List A) (new : BlockValue) → i < length xs → n + i ≡ k → ((m : ℕ) (x : A) → m ≢ k → f m x ≡ g m x) →
      ((x : A) → x ≡ get_or xs i x → new ≡ g k x)
      → slice_set (blocks_from f n xs) i new ≡ blocks_from g n xs
  set_blocks n i k [] new within at others this = absurd (omega arith)
  set_blocks n zero k (x ∷ xs) new within at others this =
      let here : k ≡ n = omega (arith, at) in
      ap (λ b. b ∷ blocks_from f (suc n) xs) (this x refl ∙ ap (λ m. g m x) here)
      ∙ ap (λ bs. g n x ∷ bs) (same_blocks (suc n) xs (λ m y low high. others m y (λ e. omega (arith, e, low, at))))
  set_blocks n (suc i) k (x ∷ xs) new within at others this =
      ap (λ b. b ∷ slice_set (blocks_from f (suc n) xs) i new) (others n x (λ e. omega (arith, e, at)))
      ∙ ap (λ bs. g n x ∷ bs) (set_blocks (suc n) i k xs new (omega (arith, within)) (omega (arith, at)) others this)

blocks_count : {A : Type 0} (f : ℕ → A → BlockValue) (n : ℕ) (xs : List A) → length (blocks_from f n xs) ≡ length xs
blocks_count f n [] = refl
blocks_count f n (x ∷ xs) = ap suc (blocks_count f (suc n) xs)

block_at : {A : Type 0} (f : ℕ → A → BlockValue) (n i : ℕ) (xs : List A) (x : A) (d : BlockValue) → i < length xs → x ≡ get_or xs i x →
    get_or (blocks_from f n xs) i d ≡ f (n + i) x
block_at f n i [] x d within is = absurd (omega arith)
block_at f n zero (y ∷ ys) x d within is = let here : n + zero ≡ n = omega arith in ap (λ m. f m y) (sym here) ∙ ap (f (n + zero)) (sym is)
block_at f n (suc i) (y ∷ ys) x d within is = let here : suc n + i ≡ n + suc i = omega arith in block_at f (suc n) i ys x d (omega (arith, within)) is
    ∙ ap (λ m. f m x) here

-- two numbers that differ
differ : (a b : ℕ) → a ≢ b → (a == b) ≡ false
differ a b ne = by (a == b) refl
  where
    by : (v : Bool) → (a == b) ≡ v → (a == b) ≡ false
    by true e = absurd (ne (eqb-true a b e))
    by false e = e

-- the nodes of one kind, with one site more
added : (b : Bool) (node : ℕ) (more now : List ℕ) (last : ℕ) → more ≡ now ++ last ∷ [] → (if b then node ∷ more else more) ≡ (if b then node ∷ now else now)
    ++ last ∷ []
added true node more now last h = ap (λ ns. node ∷ ns) h
added false node more now last h = h

module _ (kind : SiteKind) (site : SiteNode) where
  nodes_hit : (before : List SiteNode) → same_kind kind site.kind ≡ true → nodes_at kind (before ++ site ∷ []) ≡ nodes_at kind before ++ site.node ∷ []
  nodes_hit [] h = ap (λ (b : Bool). if b then site.node ∷ [] else []) h
  nodes_hit (s ∷ rest) h = added (same_kind kind s.kind) s.node (nodes_at kind (rest ++ site ∷ [])) (nodes_at kind rest) site.node (nodes_hit rest h)

  nodes_missed : (before : List SiteNode) → same_kind kind site.kind ≡ false → nodes_at kind (before ++ site ∷ []) ≡ nodes_at kind before
  nodes_missed [] h = ap (λ (b : Bool). if b then site.node ∷ [] else []) h
  nodes_missed (s ∷ rest) h = ap (λ ns. if same_kind kind s.kind then s.node ∷ ns else ns) (nodes_missed rest h)

-- blocks with these sites
abbrev channel_with : TypedProgram → ℕ → Channel → (sends receives : List ℕ) → BlockValue
channel_with p k c sends receives = record (channel_block p [] k c) { sends = sends; receives = receives }

abbrev var_with : TypedProgram → ℕ → Var → (writes : List ℕ) → BlockValue
var_with p x v writes = record (var_block p [] x v) { writes = writes }

-- a value of a block that is read at a place
value_at : {A : Type 0} (f : ℕ → A → BlockValue) (olds : List Block) (xs : List A) (k : ℕ) (old : Block) (x : A) → map block_value olds ≡ blocks_from f 0 xs →
    k < length xs → k < length olds → old ≡ get_or olds k old → x ≡ get_or xs k x → block_value old ≡ f k x
value_at f olds xs k old x same within here is at =
    let first : 0 + k ≡ k = omega arith in
    ap block_value is
    ∙ (sym (get_or-map block_value olds k old (block_value old) here)
    ∙ (ap (λ bs. get_or bs k (block_value old)) same
    ∙ (block_at f 0 k xs x (block_value old) within at
    ∙ ap (λ m. f m x) first)))

pub values_count : {A : Type 0} (f : ℕ → A → BlockValue) (olds : List Block) (xs : List A) → map block_value olds ≡ blocks_from f 0 xs → length olds ≡ length xs
values_count f olds xs same = sym (length-map olds block_value) ∙ (ap length same ∙ blocks_count f 0 xs)

module _ (p : TypedProgram) (before : List SiteNode) (site : SiteNode) where
  channel_missed : (m : ℕ) (c : Channel) → same_kind (Send m) site.kind ≡ false → same_kind (Receive m) site.kind ≡ false →
      channel_block p before m c ≡ channel_block p (before ++ site ∷ []) m c
  channel_missed m c s r =
      ap (λ ns. channel_with p m c ns (nodes_at (Receive m) before)) (sym (nodes_missed (Send m) site before s))
      ∙ ap (λ ns. channel_with p m c (nodes_at (Send m) (before ++ site ∷ [])) ns) (sym (nodes_missed (Receive m) site before r))

  var_missed : (m : ℕ) (v : Var) → same_kind (Write m) site.kind ≡ false → var_block p before m v ≡ var_block p (before ++ site ∷ []) m v
  var_missed m v w = ap (var_with p m v) (sym (nodes_missed (Write m) site before w))

  -- no block of a channel or of a variable has the site
  pub channels_missed : (olds : List Block) →
      ((m : ℕ) → m < length p.channels → (same_kind (Send m) site.kind ≡ false) × (same_kind (Receive m) site.kind ≡ false)) →
      map block_value olds ≡ channel_blocks p before → map block_value olds ≡ channel_blocks p (before ++ site ∷ [])
  channels_missed olds none same = same ∙ same_blocks (channel_block p before) (channel_block p (before ++ site ∷ [])) 0 p.channels (λ m c low high. let h =
      none m (omega (arith, high)) in channel_missed m c h.0 h.1)

  pub vars_missed : (olds : List Block) → ((m : ℕ) → m < length p.vars → same_kind (Write m) site.kind ≡ false) → map block_value olds ≡ var_blocks p before →
      map block_value olds ≡ var_blocks p (before ++ site ∷ [])
  vars_missed olds none same = same ∙ same_blocks (var_block p before) (var_block p (before ++ site ∷ [])) 0 p.vars
      (λ m v low high. var_missed m v (none m (omega (arith, high))))

  -- the block of this number has it
  module _ (olds : List Block) (k : ℕ) (old new : Block) (within : k < length olds) (is : old ≡ get_or olds k old) where
    pub send_placed : site.kind ≡ Send k → block_value new ≡ record (block_value old) { sends = old.sends.items ++ site.node ∷ [] } →
        map block_value olds ≡ channel_blocks p before → map block_value (slice_set olds k new) ≡ channel_blocks p (before ++ site ∷ [])
    send_placed kind value same =
        let inside : k < length p.channels = omega (arith, within, values_count (channel_block p before) olds p.channels same) in
        map-set block_value olds k new
        ∙ (ap (λ bs. slice_set bs k (block_value new)) same
        ∙ set_blocks (channel_block p before) (channel_block p (before ++ site ∷ [])) 0 k k p.channels (block_value new) inside (omega arith)
        (λ m c ne. channel_missed m c (ap (same_kind (Send m)) kind ∙ differ m k ne) (ap (same_kind (Receive m)) kind))
        (λ c at. value
        ∙ (ap (λ (b : BlockValue). record b { sends = b.sends ++ site.node ∷ [] })
        (value_at (channel_block p before) olds p.channels k old c same inside within is at)
        ∙ (ap (λ ns. channel_with p k c ns (nodes_at (Receive k) before))
        (sym (nodes_hit (Send k) site before (ap (same_kind (Send k)) kind ∙ eq-eqb k k refl)))
        ∙ ap (λ ns. channel_with p k c (nodes_at (Send k) (before ++ site ∷ [])) ns)
        (sym (nodes_missed (Receive k) site before (ap (same_kind (Receive k)) kind)))))))

    pub receive_placed : site.kind ≡ Receive k → block_value new ≡ record (block_value old) { receives = old.receives.items ++ site.node ∷ [] } →
        map block_value olds ≡ channel_blocks p before → map block_value (slice_set olds k new) ≡ channel_blocks p (before ++ site ∷ [])
    receive_placed kind value same =
        let inside : k < length p.channels = omega (arith, within, values_count (channel_block p before) olds p.channels same) in
        map-set block_value olds k new
        ∙ (ap (λ bs. slice_set bs k (block_value new)) same
        ∙ set_blocks (channel_block p before) (channel_block p (before ++ site ∷ [])) 0 k k p.channels (block_value new) inside (omega arith)
        (λ m c ne. channel_missed m c (ap (same_kind (Send m)) kind) (ap (same_kind (Receive m)) kind ∙ differ m k ne))
        (λ c at. value
        ∙ (ap (λ (b : BlockValue). record b { receives = b.receives ++ site.node ∷ [] })
        (value_at (channel_block p before) olds p.channels k old c same inside within is at)
        ∙ (ap (λ ns. channel_with p k c ns (nodes_at (Receive k) before ++ site.node ∷ []))
        (sym (nodes_missed (Send k) site before (ap (same_kind (Send k)) kind)))
        ∙ ap (λ ns. channel_with p k c (nodes_at (Send k) (before ++ site ∷ [])) ns)
        (sym (nodes_hit (Receive k) site before (ap (same_kind (Receive k)) kind ∙ eq-eqb k k refl)))))))

    pub write_placed : site.kind ≡ Write k → block_value new ≡ record (block_value old) { writes = old.writes.items ++ site.node ∷ [] } →
        map block_value olds ≡ var_blocks p before → map block_value (slice_set olds k new) ≡ var_blocks p (before ++ site ∷ [])
    write_placed kind value same =
        let inside : k < length p.vars = omega (arith, within, values_count (var_block p before) olds p.vars same) in
        map-set block_value olds k new
        ∙ (ap (λ bs. slice_set bs k (block_value new)) same
        ∙ set_blocks (var_block p before) (var_block p (before ++ site ∷ [])) 0 k k p.vars (block_value new) inside (omega arith)
        (λ m v ne. var_missed m v (ap (same_kind (Write m)) kind ∙ differ m k ne))
        (λ v at. value
        ∙ (ap (λ (b : BlockValue). record b { writes = b.writes ++ site.node ∷ [] })
        (value_at (var_block p before) olds p.vars k old v same inside within is at)
        ∙ ap (var_with p k v) (sym (nodes_hit (Write k) site before (ap (same_kind (Write k)) kind ∙ eq-eqb k k refl))))))

  -- or there is no block of this number
  module _ (olds : List Block) (k : ℕ) (over : length olds ≤ k) where
    pub send_unplaced : site.kind ≡ Send k → map block_value olds ≡ channel_blocks p before → map block_value olds ≡ channel_blocks p (before ++ site ∷ [])
    send_unplaced kind same =
        let count = values_count (channel_block p before) olds p.channels same in
        channels_missed olds (λ m low. (ap (same_kind (Send m)) kind ∙ differ m k (λ e. omega (arith, e, low, over, count)), ap (same_kind (Receive m)) kind))
        same

    pub receive_unplaced : site.kind ≡ Receive k → map block_value olds ≡ channel_blocks p before →
        map block_value olds ≡ channel_blocks p (before ++ site ∷ [])
    receive_unplaced kind same =
        let count = values_count (channel_block p before) olds p.channels same in
        channels_missed olds (λ m low. (ap (same_kind (Send m)) kind, ap (same_kind (Receive m)) kind ∙ differ m k (λ e. omega (arith, e, low, over, count))))
        same

    pub write_unplaced : site.kind ≡ Write k → map block_value olds ≡ var_blocks p before → map block_value olds ≡ var_blocks p (before ++ site ∷ [])
    write_unplaced kind same =
        let count = values_count (var_block p before) olds p.vars same in
        vars_missed olds (λ m low. ap (same_kind (Write m)) kind ∙ differ m k (λ e. omega (arith, e, low, over, count))) same

-- blocks that are made one after another
module _ {A : Type 0} (f : ℕ → A → BlockValue) where
  pub next_block : (made : List Block) (b : Block) (i : ℕ) (xs : List A) (x : A) (all : List BlockValue) → i < length xs → x ≡ get_or xs i x →
      block_value b ≡ f i x
      → map block_value made ++ blocks_from f i (drop i xs) ≡ all → map block_value (made ++ b ∷ []) ++ blocks_from f (i + 1) (drop (i + 1) xs) ≡ all
  next_block made b i xs x all within is value so_far =
      let rest = blocks_from f (i + 1) (drop (i + 1) xs) in
      let more : drop i xs ≡ x ∷ drop (i + 1) xs = drop_more xs i x within ∙ ap (λ y. y ∷ drop (i + 1) xs) (sym is) in
      let number : suc i ≡ i + 1 = omega arith in
      ap (λ bs. bs ++ rest) (map-append block_value made (b ∷ []))
      ∙ (append_assoc (map block_value made) (block_value b ∷ []) rest
      ∙ (ap (λ v. map block_value made ++ v ∷ rest) value
      ∙ (ap (λ n. map block_value made ++ f i x ∷ blocks_from f n (drop (i + 1) xs)) (sym number)
      ∙ (ap (λ ys. map block_value made ++ blocks_from f i ys) (sym more)
      ∙ so_far))))

  pub all_blocks_made : (made : List Block) (i : ℕ) (xs : List A) (all : List BlockValue) → length xs ≤ i →
      map block_value made ++ blocks_from f i (drop i xs) ≡ all → map block_value made ≡ all
  all_blocks_made made i xs all over so_far =
      sym (append-nil (map block_value made)) ∙ (ap (λ ys. map block_value made ++ blocks_from f i ys) (sym (drop_all i xs over)) ∙ so_far)

-- so much room is there for what comes before some place
pub wires_within : (cs : List Channel) (i : ℕ) → wires_before cs i ≤ wires_before cs (length cs)
wires_within [] i = omega arith
wires_within (c ∷ cs) zero = omega arith
wires_within (c ∷ cs) (suc i) = let rest : wires_before cs i ≤ wires_before cs (length cs) = wires_within cs i in omega (arith, rest)

pub blocks_within : (vs : List Var) (i : ℕ) → blocks_before vs i ≤ blocks_before vs (length vs)
blocks_within [] i = omega arith
blocks_within (v ∷ vs) zero = omega arith
blocks_within (v ∷ vs) (suc i) = let rest : blocks_before vs i ≤ blocks_before vs (length vs) = blocks_within vs i in omega (arith, rest)
