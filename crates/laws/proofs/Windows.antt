-- Where a fetch window is: proofs.
use Rattle.std.specs.Prelude.{◌≡◌, List, ℕ, ◌+◌, ◌*◌, ◌-◌, ◌<◌, min, length}
use Rattle.std.proofs.Common.{ap, arith, le-ltb}
use Rattle.std.specs.Borrow.{Bor}
use Rattle.board.specs.Regions.{in_rom}
use Rattle.board.specs.RegionLaws.{rom_below, program_b0}
use Rattle.board.specs.Slices.{part_start}
use Rattle.board.specs.Windows.{window_start}
use Rattle.laws.specs.Laws.{WindowPlaces}

-- a part that begins in the slice
begins : (from to : ℕ) (words : Bor (List ℕ)) → from < to → from < length words.now → part_start from to words ≡ (words.ref_ptr.0, words.ref_ptr.1 + 2 * from)
unfolding part_start
begins from to words h k =
    let e : min from (min to (length words.now)) ≡ from = omega (arith, h, k) in
    ap (λ (n : ℕ). (words.ref_ptr.0, words.ref_ptr.1 + 2 * n)) e

pub window_places : WindowPlaces
unfolding window_start in_rom
window_places cnf address rom «data» r d = record {
  in_rom = λ h. rw h (begins address 0x1000 rom (rom_below address h) (omega (arith, r, rom_below address h)));
  in_b0 = λ h.
      let b = program_b0 cnf address h in
      rw (le-ltb address 4096 (omega (arith, b.first)), h) (begins (address - 0xFF00 + 0x200) 0x300 «data» (omega (arith, b.first, b.last)) (omega (arith, d, b.first, b.last)));
}
