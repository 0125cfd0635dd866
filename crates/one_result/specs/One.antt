-- One possible result: a contract that is an equation leaves one.
use Rattle.std.specs.Prelude.{◌≡◌}
use Rattle.std.proofs.Common.{sym, ◌∙◌}
use Rattle.std.specs.Borrow.{Bor}

-- A contract as the checker reads it: of the lifetimes, the parameters, the result, and what was lent as it is at exit. Two ends of a call that both meet it, from
-- the same parameters, show the same.
abbrev pub OneOutcome : {K A R E O : Type 0} → (K → A → R → E → Type 0) → (R → E → O) → Type 0
OneOutcome {K} {A} {R} {E} Post shown = (κs : K) (a : A) (r r' : R) (e e' : E) → Post κs a r e → Post κs a r' e' → shown r e ≡ shown r' e'

-- of a function that is lent nothing to change: the same result
abbrev pub OneResult : {K A R E : Type 0} → (K → A → R → E → Type 0) → Type 0
OneResult Post = OneOutcome Post (λ r e. r)

-- The one lemma: what equals the same definition is the same.
pub same : {X : Type 0} {x y z : X} → x ≡ z → y ≡ z → x ≡ y
same p q = p ∙ sym q

-- for contracts of several equations
abbrev pub pair : {X Y : Type 0} → X → Y → X × Y
pair x y = (x, y)

-- of a function that shows a part of a slice: the same words, in the same place
abbrev pub OnePart : {K A E X : Type 0} → (K → A → Bor X → E → Type 0) → Type 0
OnePart Post = OneOutcome Post (λ r e. pair r.now r.ref_ptr)

pub same_pair : {X Y : Type 0} {x x' : X} {y y' : Y} → x ≡ x' → y ≡ y' → pair x y ≡ pair x' y'
same_pair p q = λ i. (p i, q i)
