-- A shelf that tells nothing: what a trait's clause says of told bytes is no claim.
use Rattle.std.proofs.Common.{◌≡◌, Bool, true, false, refl, inl}
use Rattle.std.proofs.lemmas.Result.{IfOk-weaker, on_ok_weaker, on_err_weaker}
use Rattle.chp_edge.proofs.real.FileShelfShelf.TheImpl.Goals as goal

untold : {P : Type 0} → (let no : Bool = false in no ≡ true) → P
untold e = cc

pub begin-tells : goal.begin-tells
begin-tells g c = record {
  faults = c.ensures.faults;
  counted = c.ensures.counted;
  same = refl;
  kept = refl;
  begun = on_ok_weaker c.result (λ same told. untold told) c.ensures.unfailed;
  failed = on_err_weaker c.result inl c.ensures.failed;
  emptied = on_err_weaker c.result (λ rose told. untold told) c.ensures.failed;
}

pub next-tells : goal.next-tells
next-tells g c = record {
  faults = c.ensures.faults;
  counted = c.ensures.counted;
  same = refl;
  kept = refl;
  within = c.ensures.within;
  bytes = IfOk-weaker c.result _ _ (λ n within told. untold told) c.ensures.within;
  end = IfOk-weaker c.result _ _ (λ n within told. untold told) c.ensures.within;
  failed = c.ensures.failed;
  stays = on_err_weaker c.result (λ rose told. untold told) c.ensures.failed;
}
