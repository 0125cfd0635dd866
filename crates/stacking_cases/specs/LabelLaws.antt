-- The figure is 127, and nothing else is one. The guide's SPM page ("128 .. without the possibility of overflow") is refuted.
use Rattle.std.specs.Prelude.{◌≡◌, refl, List, [], ℕ, ◌+◌, ◌<◌, get_or}
use Rattle.std.proofs.Common.{sym, ◌∙◌, ap}
use native.Mathlib.Omega.{arith, by_contra, both_ways}
use Rattle.alu.specs.Registers.{wrapped_sum}
use Rattle.machine.specs.Reset.{reset_machine}
use Rattle.answers.specs.Answers.{Done}
use Rattle.answers.specs.Numbers.{is_done}
use Rattle.answers.proofs.NumberLaws.{number_injective}
use Rattle.instructions.specs.Encoding.{low_fits, modification_of, next_of, indirect_of, address_mode_of}
use Rattle.instructions.specs.Decode.{decode_of}
use Rattle.board.specs.Regions.{in_rom, in_program_b0}
use Rattle.board.specs.Windows.{window_of, program_word}
use Rattle.board.specs.Given.{Given, given}
use Rattle.steps.specs.Table.{decoded_at}
use Rattle.instructions.specs.declared.Instruction.TheVariants as Family
use Rattle.operands.specs.declared.Address.TheVariants.{Direct}
use Rattle.instructions.specs.declared.Modes.TheVariants.{Rptk}
use Rattle.instructions.specs.declared.Multiplier.TheVariants.{Mac}
use Rattle.steps.specs.World.{World}
use Rattle.laws.specs.Repeating.{word_ahead, by_rptk}
use Rattle.stacking.specs.Stacking.{by_mac, Stacks, last_world}
use Rattle.stacking.specs.Demand.{demand}
use Rattle.stacking_cases.specs.Cases.{rom_with, world_with, run_with}
use Rattle.stacking_cases.specs.CaseLaws.{computed}
use Rattle.stacking_cases.specs.SizedLaws.{all_sized, sized_by}
use Rattle.stacking.specs.Label.{Overflows, MostFrames}

-- 128 frames of -32768 alone; the run is that of the cases
pub overflows_128 : Overflows 127
unfolding word_ahead last_world all_sized reset_machine low_fits modification_of next_of indirect_of address_mode_of decode_of in_rom in_program_b0 window_of program_word decoded_at wrapped_sum rom_with world_with run_with
overflows_128 =
    let held = computed.all_128_held in
    record {
      g = given (rom_with 127 0x8000) [];
      w = world_with 1;
      stacks = record {
        acc_zero = refl;
        p_zero = refl;
        ov_zero = refl;
        shift_three = refl;
        no_repeat = refl;
        repeat = Family.Modes (Rptk 127);
        repeat_first = refl;
        repeat_gives = by_rptk 127;
        accumulate = Family.Multiplier (Mac (Direct 0x60));
        accumulate_second = refl;
        accumulates = by_mac (Direct 0x60);
        apac_third = refl;
        not_refused = ap is_done (number_injective (run_with 127 0x8000 1).answer Done (ap (λ (l : List ℕ). get_or l 0 0) held));
        rom_sized = sized_by (rom_with 127 0x8000) refl;
        data_sized = sized_by (world_with 1).«data» refl;
      };
      overflowed = ap (λ (l : List ℕ). get_or l 3 0) held;
    }

pub most_127 : MostFrames 127
most_127 = record { safe = λ g w k s h. (demand g w k s h).ov; tight = overflows_128 }

-- a figure below the other would let the other's stack overflow
not_below : (n n' : ℕ) → MostFrames n → MostFrames n' → n < n' → ⊥
unfolding last_world
not_below n n' a b h =
    let t = a.tight in
    let o = b.safe t.g t.w n t.stacks (omega arith) (n + 3) (omega arith) in
    let z : ◌≡◌ {A = ℕ} 0 1 = sym o ∙ t.overflowed in
    omega arith

pub one_figure : (n n' : ℕ) → MostFrames n → MostFrames n' → n ≡ n'
one_figure n n' a b = both_ways _ _ (by_contra _ _ (λ l. not_below n' n b a (omega arith))) (by_contra _ _ (λ l. not_below n n' a b (omega arith)))

-- not every stack of 128 frames is without overflow
pub spm_page_refuted : ((g : Given) (w : World) → Stacks g w 127 → (last_world g w 127).m.ov ≡ 0) → ⊥
spm_page_refuted all =
    let t = overflows_128 in
    let z : ◌≡◌ {A = ℕ} 0 1 = sym (all t.g t.w t.stacks) ∙ t.overflowed in
    omega arith
