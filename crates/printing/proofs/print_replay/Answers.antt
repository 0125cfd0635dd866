-- What was read, all there is or 16,401 bytes, decides the line.
use Rattle.std.proofs.Common.{◌≡◌, ℕ, ◌<◌, ◌≤◌, List, [], ◌++◌, Bool, true, false, arith, length, take, drop, Some, None, IfSome, sym, ap, subst, rules, ◌∙◌, take_all, take_at, drop_at, length-take-le, append-nil}
use Rattle.std.proofs.lemmas.List.{drop_all}
use Rattle.std.proofs.lemmas.Result.{on_ok_weaker}
use Rattle.std.specs.Prelude.{ltb, refl}
use Rattle.std.specs.Io.KnownBytes.{Appends, Consumes, IsAtEnd}
use Rattle.std.specs.declared.option.Option.{Option}
use Rattle.replay_line.specs.Replay.{replay_line}
use Rattle.replaying.proofs.CutLaws.{cut_replay}
use lib.Seq.{take-append-le}
use borrow.Author.Tests.{ltb-true, ltb-false}
use Rattle.printing.proofs.print_replay.Goals as goal

written_line : {n : ℕ} {after : List ℕ} (line lent : List ℕ) → (n ≡ length line) × (after ≡ line ++ drop (length line) lent) → take n after ≡ line
written_line line lent p = rw (p.0, p.1) (take_at line (drop (length line) lent) (length line) refl)

module _ (file : List ℕ) (n : ℕ) (size : length file ≡ 16401) (within : n ≤ length file) where
  first_bytes : (xs ys : List ℕ) → xs ≡ take n file ++ ys → (n < length file → ys ≡ []) → (take 16401 xs ≡ take n file) × (drop 16401 xs ≡ ys)
  first_bytes xs ys e ended = by (ltb n (length file)) refl
    where
      read : length (take n file) ≡ n
      read = length-take-le n file within

      by : (t : Bool) → ltb n (length file) ≡ t → (take 16401 xs ≡ take n file) × (drop 16401 xs ≡ ys)
      by true t =
          let none : ys ≡ [] = ended (ltb-true _ _ t) in
          let all : xs ≡ take n file = e ∙ ap (λ l. take n file ++ l) none ∙ append-nil (take n file) in
          let short : length xs ≤ 16401 = rw all (omega (arith, read, size)) in
          (take_all 16401 xs short ∙ all, drop_all 16401 xs short ∙ sym none)
      by false t =
          let whole : length file ≤ n = ltb-false _ _ t in
          let long : length (take n file) ≡ 16401 = omega (arith, read, size) in
          (ap (take 16401) e ∙ take-append-le 16401 (take n file) ys (omega arith) ∙ take_all 16401 (take n file) (omega arith), ap (drop 16401) e ∙ drop_at (take n file) ys 16401 long)

  bytes_left : (known left : Option (List ℕ)) → Consumes known left (take n file) → (n < length file → IsAtEnd left) → IfSome known (λ bytes. left ≡ Some (drop 16401 bytes))
  bytes_left None left c ended = tt
  bytes_left (Some xs) None c ended = absurd c
  bytes_left (Some xs) (Some ys) c ended = ap Some (sym (first_bytes xs ys c ended).1)

  line_written : (known left before after : Option (List ℕ)) → Consumes known left (take n file) → (n < length file → IsAtEnd left)
      → Appends before after (replay_line (take n file)) → IfSome known (λ bytes. Appends before after (replay_line bytes))
  line_written None left before after c ended w = tt
  line_written (Some xs) None before after c ended w = absurd c
  line_written (Some xs) (Some ys) before after c ended w =
      subst (λ l. Appends before after l) (sym (ap replay_line (first_bytes xs ys c ended).0) ∙ cut_replay xs 16401 (omega arith)) w

pub returns-clause-read : goal.returns-clause-read
returns-clause-read g c =
    let read = c.in_ok-count.ensures in
    let size : length c.fill.new.bytes ≡ 16401 = search rules in
    on_ok_weaker c.write_all.result (λ _. bytes_left c.fill.new.bytes c.in_ok-count.count size read.within _ _ read.first read.ended) c.write_all.ensures.bytes

pub returns-clause-written : goal.returns-clause-written
returns-clause-written g c =
    let read = c.in_ok-count.ensures in
    let size : length c.fill.new.bytes ≡ 16401 = search rules in
    let line : take c.replayed-end.result c.replayed-end.new.line ≡ replay_line (take c.in_ok-count.count c.fill.new.bytes) = written_line _ _ c.replayed-end.ensures in
    on_ok_weaker c.write_all.result (λ w. line_written c.fill.new.bytes c.in_ok-count.count size read.within _ _ _ _ read.first read.ended (subst (Appends _ _) line w)) c.write_all.ensures.bytes
