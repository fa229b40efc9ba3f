use Rattle.std.proofs.Common.{◌≡◌, ℕ, List, [], true, false, inl, inr, refl, sym}
use Rattle.std.specs.Prelude.{Option, Some, None, is_some}
use Rattle.chp_edge.specs.Files.{File, held_at, held_by, left_at}
use Rattle.chp_edge.proofs.Apart.{untrue}
use Rattle.chp_edge.proofs.memory.MemShelfShelf.begin.Goals as goal

none_and_some : {A P : Type 0} {x : A} {o : Option A} → o ≡ Some x → o ≡ None → P
none_and_some some none = absurd (cc (some, none))

-- the file at a place that was found is left whole
begun_at : (files : List File) (o p : Option ℕ) → o ≡ p → is_some o ≡ true → held_at files p ≡ Some (left_at files o 0)
begun_at files None p is some = untrue some
begun_at files (Some place) p is some = rw (sym is) refl

-- and where none was found nothing is
none_at : (files : List File) (o p : Option ℕ) → o ≡ p → is_some o ≡ false → (held_at files p ≡ None) × (left_at files o 0 ≡ [])
none_at files None p is none = (rw (sym is) refl, refl)
none_at files (Some place) p is none = untrue (sym none)

pub returns : goal.returns
returns c =
    let e = c.if-fails.ensures in
    let files = c.args.self.now.files.items in
    let begun : held_by files c.args.name.now ≡ Some (left_at files c.place_of-self.result 0) =
    begun_at files c.place_of-self.result _ c.place_of-self.ensures c.if-is_none.ensures in
    record {
      faults = e.faults;
      counted = e.counted;
      files = refl;
      calls = e.calls;
      failing = e.failing;
      begun = begun;
      emptied = tt;
      fails = (untrue, λ either. elim either [ inl has ↦ e.planned.1 has | inr none ↦ none_and_some begun none ]);
      failed = tt;
      planned = λ has. untrue (e.planned.1 has);
      unplanned = λ _. e.stays;
    }

pub returns-then-fails : goal.returns-then-fails
returns-then-fails c =
    let e = c.if-fails.ensures in record {
      faults = e.faults;
      counted = e.counted;
      files = refl;
      calls = e.calls;
      failing = e.failing;
      begun = tt;
      emptied = refl;
      fails = (λ _. inl (e.planned.0 refl), λ _. refl);
      failed = inl e.rose;
      planned = λ _. e.exact;
      unplanned = λ off. absurd (off (e.planned.0 refl));
    }

pub returns-then-is_none : goal.returns-then-is_none
returns-then-is_none c =
    let e = c.if-fails.ensures in
    let none = none_at c.args.self.now.files.items c.place_of-self.result _ c.place_of-self.ensures c.if-is_none.ensures in
    record {
      faults = e.faults;
      counted = e.counted;
      files = refl;
      calls = e.calls;
      failing = e.failing;
      begun = tt;
      emptied = none.1;
      fails = (λ _. inr none.0, λ _. refl);
      failed = inr (refl, none.0);
      planned = λ has. untrue (e.planned.1 has);
      unplanned = λ _. e.stays;
    }
