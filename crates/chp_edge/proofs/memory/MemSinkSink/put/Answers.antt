use Rattle.std.proofs.Common.{◌∙◌, ◌≤◌, ℕ, ap, arith, inl, inr, refl, subst}
use Rattle.std.specs.Prelude.{vec_len}
use Rattle.chp_edge.specs.Faults.{Rose, one_higher}
use Rattle.chp_edge.proofs.Apart.{untrue}
use Rattle.chp_edge.proofs.memory.MemSinkSink.put.Goals as goal

pub returns : goal.returns
returns c =
    let e = c.if-fails.ensures in
    record {
      faults = e.faults;
      counted = e.counted;
      limits = (refl, refl);
      calls = e.calls;
      failing = e.failing;
      count = omega (arith, c.min-n.ensures, c.min.ensures, c.len.ensures);
      some = omega (arith, c.min-n.ensures, c.min.ensures, c.len.ensures, c.if-left-eq0.false, c.requires, c.args.self.now.some);
      bytes = c.in-Ok.ensures.items;
      fails = (
        untrue,
        λ either. elim either [ inl has ↦ e.planned.1 has | inr full ↦ absurd (omega (arith, full, c.len.ensures, c.if-left-eq0.false)) ],
      );
      failed = tt;
      exact = tt;
      stays = tt;
      unplanned = λ _. e.stays;
    }

pub returns-then-fails : goal.returns-then-fails
returns-then-fails c =
    let e = c.if-fails.ensures in record {
      faults = e.faults;
      counted = e.counted;
      limits = (refl, refl);
      calls = e.calls;
      failing = e.failing;
      count = tt;
      some = tt;
      bytes = tt;
      fails = (λ _. inl (e.planned.0 refl), λ _. refl);
      failed = e.rose;
      exact = e.exact;
      stays = refl;
      unplanned = untrue;
    }

pub returns-then-left-eq0 : goal.returns-then-left-eq0
returns-then-left-eq0 c =
    let e = c.if-fails.ensures in
    let f = c.fault.ensures in
    let full : c.args.self.now.room ≤ vec_len c.args.self.now.written = omega (arith, c.if-left-eq0.true, c.len.ensures) in
    record {
      faults = omega (arith, e.faults, f.faults);
      counted = f.counted;
      limits = (refl, refl);
      calls = f.calls ∙ e.calls;
      failing = f.failing ∙ e.failing;
      count = tt;
      some = tt;
      bytes = tt;
      fails = (λ _. inr full, λ _. refl);
      failed = subst (λ (n : ℕ). Rose n c.fault.new.self.faults) e.stays f.rose;
      exact = f.exact ∙ ap one_higher e.stays;
      stays = refl;
      unplanned = untrue;
    }
