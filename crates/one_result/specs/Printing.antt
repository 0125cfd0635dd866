-- One possible result of `print_replay` and of `fill`, where no read or write fails and the bytes are known: of an Err, or of bytes that are not known, their contracts say nothing.
use Rattle.printing.proofs.print_replay.Reads as PrintReplay
use Rattle.filling.proofs.fill.Reads as Fill
use Rattle.one_result.specs.One.{OneOutcome, pair, same, same_pair}
use Rattle.std.proofs.Common.{◌≡◌, ℕ, ◌<◌, ◌≤◌, List, [], ◌++◌, Bool, true, false, arith, length, take, drop, Some, None, IfSome, sym, ap, subst, ◌∙◌, take_all, drop_at, length-take-le, append-nil}
use Rattle.std.proofs.lemmas.List.{drop_all}
use Rattle.std.specs.Prelude.{ltb, refl, Ok}
use Rattle.std.specs.Io.KnownBytes.{Appends, Consumes, IsAtEnd}
use Rattle.std.specs.declared.option.Option.{Option}
use Rattle.replay_line.specs.Replay.{replay_line}
use lib.Seq.{take-append-le}
use borrow.Author.Tests.{ltb-true, ltb-false}
use denote.RattleType.{RattleType}
use denote.Param.Laws.{Laws}
use mir.Syntax.{Dict}
use Rattle.std.specs.declared.io.traits.Read as ReadTrait
use Rattle.std.specs.declared.io.traits.Write as WriteTrait

appended : (held line : List ℕ) (new : Option (List ℕ)) → Appends (Some held) new line → new ≡ Some (held ++ line)
appended held line None p = absurd p
appended held line (Some ys) p = ap Some p

left_known : (bytes : List ℕ) (known end : Option (List ℕ)) → known ≡ Some bytes → IfSome known (λ bs. end ≡ Some (drop 16401 bs)) → end ≡ Some (drop 16401 bytes)
left_known bytes known end k p = subst (λ o. IfSome o (λ bs. end ≡ Some (drop 16401 bs))) k p

line_known : (bytes held : List ℕ) (known before after : Option (List ℕ)) → known ≡ Some bytes → before ≡ Some held
    → IfSome known (λ bs. Appends before after (replay_line bs)) → after ≡ Some (held ++ replay_line bytes)
line_known bytes held known before after k b p =
    appended held (replay_line bytes) after (subst (λ o. Appends o after (replay_line bytes)) b (subst (λ o. IfSome o (λ bs. Appends before after (replay_line bs))) k p))

module _ (T1 T2 : RattleType) (L1 : Laws T1) (L2 : Laws T2) (G1 : ReadTrait.Ghosts T1.Denot) (D1 : Dict) (G2 : WriteTrait.Ghosts T2.Denot) (D2 : Dict) (bytes held : List ℕ) where
  pub print_replay : OneOutcome
      (λ κs a r e. (G1.remaining a.0.now ≡ Some bytes) × (G2.contents a.1.0.now ≡ Some held) × PrintReplay.Post T1 T2 L1 L2 G1 D1 G2 D2 κs a (Ok r) e)
      (λ r e. pair (G1.remaining e.0.now) (G2.contents e.1.0.now))
  print_replay κs a r r' e e' p q =
      same_pair (same (left_known bytes _ _ p.0 p.2.0) (left_known bytes _ _ q.0 q.2.0))
      (same (line_known bytes held _ _ _ p.0 p.1 p.2.1) (line_known bytes held _ _ _ q.0 q.1 q.2.1))

abbrev pub Filled : List ℕ → ℕ → ℕ → List ℕ → Option (List ℕ) → Type 0
Filled xs size n file end = (n ≡ length (take size xs)) × ((take n file ≡ take size xs) × (end ≡ Some (drop size xs)))

module _ (size : ℕ) (file : List ℕ) (n : ℕ) (whole : length file ≡ size) (within : n ≤ length file) where
  first_bytes : (xs ys : List ℕ) → xs ≡ take n file ++ ys → (n < length file → ys ≡ []) → (take size xs ≡ take n file) × (drop size xs ≡ ys)
  first_bytes xs ys e ended = by (ltb n (length file)) refl
    where
      read : length (take n file) ≡ n
      read = length-take-le n file within

      by : (t : Bool) → ltb n (length file) ≡ t → (take size xs ≡ take n file) × (drop size xs ≡ ys)
      by true t =
          let none : ys ≡ [] = ended (ltb-true _ _ t) in
          let all : xs ≡ take n file = e ∙ ap (λ l. take n file ++ l) none ∙ append-nil (take n file) in
          let short : length xs ≤ size = rw all (omega (arith, read, whole)) in
          (take_all size xs short ∙ all, drop_all size xs short ∙ sym none)
      by false t =
          let full : length file ≤ n = ltb-false _ _ t in
          let long : length (take n file) ≡ size = omega (arith, read, whole) in
          (ap (take size) e ∙ take-append-le size (take n file) ys (omega arith) ∙ take_all size (take n file) (omega arith), ap (drop size) e ∙ drop_at (take n file) ys size long)

  filled : (xs : List ℕ) (known end : Option (List ℕ)) → known ≡ Some xs → Consumes known end (take n file) → (n < length file → IsAtEnd end) → Filled xs size n file end
  filled xs known end k c ended = at end (subst (λ o. Consumes o end (take n file)) k c) ended
    where
      at : (end : Option (List ℕ)) → Consumes (Some xs) end (take n file) → (n < length file → IsAtEnd end) → Filled xs size n file end
      at None c ended = absurd c
      at (Some ys) c ended =
          let parts = first_bytes xs ys c ended in
          (sym (length-take-le n file within) ∙ ap length (sym parts.0), (sym parts.0, ap Some (sym parts.1)))

module _ (T1 : RattleType) (L1 : Laws T1) (G1 : ReadTrait.Ghosts T1.Denot) (D1 : Dict) (xs : List ℕ) (size : ℕ) where
  pub fill : OneOutcome
      (λ κs a r e. (G1.remaining a.0.now ≡ Some xs) × (length e.1.0.now ≡ size) × Fill.Post T1 L1 G1 D1 κs a (Ok r) e)
      (λ r e. pair r (pair (take r e.1.0.now) (G1.remaining e.0.now)))
  fill κs a r r' e e' p q =
      let one : Filled xs size r e.1.0.now (G1.remaining e.0.now) = filled size _ r p.1 p.2.0 xs _ _ p.0 p.2.1.0 p.2.1.1 in
      let two : Filled xs size r' e'.1.0.now (G1.remaining e'.0.now) = filled size _ r' q.1 q.2.0 xs _ _ q.0 q.2.1.0 q.2.1.1 in
      same_pair (same one.0 two.0) (same_pair (same one.1.0 two.1.0) (same one.1.1 two.1.1))
