-- Not routine: the array has 16,401 bytes, so that from a count of 16,401 on the first `count` bytes are all of them.
use Rattle.std.specs.Prelude.{◌≡◌, refl, Bool, true, false, List, ℕ, length, take, min, leb}
use Rattle.std.proofs.Common.{arith, sym, ◌∙◌, take_all, leb-true, leb-false}
use Rattle.replaying.proofs.replayed.Goals as goal

cut : (l : List ℕ) (n k most : ℕ) → length l ≡ most → k ≡ min n most → take k l ≡ take n l
cut l n k most size e = by (leb n most) refl
  where
    by : (t : Bool) → leb n most ≡ t → take k l ≡ take n l
    by true t = let same : k ≡ n = omega (arith, leb-true n most t) in rw same
    by false t = take_all k l (omega (arith, leb-false n most t)) ∙ sym (take_all n l (omega (arith, leb-false n most t)))

pub returns : goal.returns
returns c = rw (cut c.args.file.now c.args.count c.min.result 16401 c.told-file c.min.ensures) at c.put_line.ensures
