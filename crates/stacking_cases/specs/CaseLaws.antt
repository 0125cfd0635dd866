-- The stacks of the cases, computed from the emulator's definitions.
use Rattle.std.specs.Prelude.{◌≡◌, refl, List, [], ◌∷◌, ℕ}
use Rattle.alu.specs.Word.{signed, low}
use Rattle.alu.specs.Sums.{holds, held, settled, carry, no_borrow, added, subtracted}
use Rattle.alu.specs.Products.{product, product_word, left_by, right_by, product_shift, shifted_product, product_high, product_low}
use Rattle.alu.specs.Registers.{wrapped_sum, wrapped_difference, reversed, reversed_sum}
use Rattle.machine.specs.Reset.{reset_machine}
use Rattle.machine.specs.Range.{in_range}
use Rattle.instructions.specs.Encoding.{low_fits, modification_of, next_of, indirect_of, address_mode_of}
use Rattle.instructions.specs.Decode.{decode_of}
use Rattle.pages.specs.Traits.{traits_of, multiplier_traits, modes_traits}
use Rattle.pages.specs.Addressing.{moved, pointed, modified, addressed, address_of}
use Rattle.pages.specs.MultiplierPages.{APAC, MAC, table_address}
use Rattle.pages.specs.ModesPages.{RPTK}
use Rattle.pages.specs.ModesRule.{modes_rule}
use Rattle.pages.specs.MultiplierRule.{multiplier_rule}
use Rattle.pages.specs.Rules.{rule_of}
use Rattle.pages.specs.Passes.{followed, destination}
use Rattle.board.specs.Finding.{found_at}
use Rattle.board.specs.Regions.{data_region, in_rom, in_program_b0, program_present}
use Rattle.board.specs.Slices.{memories_fit, port_fits, port_spent, slices_fit}
use Rattle.board.specs.Windows.{window_of, program_word}
use Rattle.board.specs.Given.{given}
use Rattle.steps.specs.Rows.{first_given}
use Rattle.steps.specs.Refusals.{accesses, wrong_port, takes, sends, data_absent, input_dry, table_absent, output_full, pass_rows, access_rows, rest_rows}
use Rattle.steps.specs.Stores.{write_of, data_after, output_after}
use Rattle.steps.specs.OperandFound.{operand_found, found_for, outside_by}
use Rattle.steps.specs.Pass.{words_read, effect_of, passed_machine, passed_write, performed, plan_by}
use Rattle.steps.specs.Table.{checks_of, decoded_at, second_address, second_word, not_repeatable, second_absent, table_for, check_rows, fetch_rows, encoding_rows, instruction_rows, repeat_rows}
use Rattle.steps.specs.Step.{page_plan, plan_of, after_store, step_of, run_of}
use Rattle.answers.specs.Numbers.{number_of}
use Rattle.steps.specs.World.{RunOutcome}
use Rattle.stacking_cases.specs.Cases.{rom_with, world_with, run_with}

-- answer, steps, ACC and OV of a run
abbrev pub shown : RunOutcome → List ℕ
shown r = number_of r.answer ∷ r.steps ∷ r.world.m.acc ∷ r.world.m.ov ∷ []

-- n = 127 of all -32768, with holding; n = 128 of them, with holding and without, and before the last step; n = 128 with one word changed
pub record Computed : Type 0 where
  pub all_127 : shown (run_with 126 0x8000 1) ≡ 0 ∷ 129 ∷ 0x7F00_0000 ∷ 0 ∷ []
  pub all_128_held : shown (run_with 127 0x8000 1) ≡ 0 ∷ 130 ∷ 0x7FFF_FFFF ∷ 1 ∷ []
  pub all_128_turned_over : shown (run_with 127 0x8000 0) ≡ 0 ∷ 130 ∷ 0x8000_0000 ∷ 1 ∷ []
  pub all_128_before_the_last : shown (run_of (given (rom_with 127 0x8000) []) 129 (world_with 1)) ≡ 0 ∷ 129 ∷ 0x7F00_0000 ∷ 0 ∷ []
  pub one_changed_128 : shown (run_with 127 0x8001 1) ≡ 0 ∷ 130 ∷ 0x7FFF_FE00 ∷ 0 ∷ []

pub computed : Computed
unfolding signed low holds held settled carry no_borrow added subtracted product product_word left_by right_by product_shift shifted_product product_high product_low wrapped_sum wrapped_difference reversed reversed_sum reset_machine in_range low_fits modification_of next_of indirect_of address_mode_of decode_of traits_of multiplier_traits moved pointed modified addressed address_of APAC table_address multiplier_rule rule_of followed destination data_region in_rom in_program_b0 program_present memories_fit port_fits port_spent slices_fit window_of program_word first_given accesses wrong_port takes sends data_absent input_dry table_absent output_full found_at operand_found found_for outside_by words_read effect_of write_of passed_machine passed_write performed data_after output_after decoded_at second_address second_word not_repeatable second_absent table_for check_rows fetch_rows encoding_rows instruction_rows repeat_rows pass_rows access_rows rest_rows plan_by page_plan plan_of after_store step_of modes_traits MAC RPTK modes_rule checks_of run_of rom_with world_with run_with
computed = record { all_127 = refl; all_128_held = refl; all_128_turned_over = refl; all_128_before_the_last = refl; one_changed_128 = refl }
