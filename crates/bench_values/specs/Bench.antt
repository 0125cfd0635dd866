-- All cases at once, computed from the emulator's definitions.
use Rattle.std.specs.Prelude.{◌≡◌, refl, []}
use Rattle.alu.specs.Word.{signed, low}
use Rattle.alu.specs.Sums.{holds, held, settled, carry, no_borrow, added, subtracted}
use Rattle.alu.specs.Products.{product, product_word, left_by, right_by, product_shift, shifted_product, product_high, product_low}
use Rattle.alu.specs.Registers.{wrapped_sum, wrapped_difference, reversed, reversed_sum}
use Rattle.machine.specs.Reset.{reset_machine}
use Rattle.machine.specs.Range.{in_range}
use Rattle.instructions.specs.Encoding.{low_fits, modification_of, next_of, indirect_of, address_mode_of}
use Rattle.instructions.specs.Decode.{decode_of}
use Rattle.pages.specs.Traits.{traits_of, accumulator_traits, multiplier_traits, auxiliary_traits}
use Rattle.pages.specs.Addressing.{moved, pointed, modified, addressed, address_of}
use Rattle.pages.specs.AccumulatorPages.{ADDK, SUBK}
use Rattle.pages.specs.AccumulatorRule.{accumulator_rule}
use Rattle.pages.specs.MultiplierPages.{PAC, APAC, SPAC, MPY, SQRA, SQRS, SPL, SPH, table_address}
use Rattle.pages.specs.MultiplierRule.{multiplier_rule}
use Rattle.pages.specs.AuxiliaryPages.{MAR}
use Rattle.pages.specs.AuxiliaryRule.{auxiliary_rule}
use Rattle.pages.specs.Rules.{rule_of}
use Rattle.pages.specs.Passes.{followed, destination}
use Rattle.board.specs.Finding.{found_at}
use Rattle.board.specs.Regions.{data_region, in_rom, in_program_b0, program_present}
use Rattle.board.specs.Slices.{memories_fit, port_fits, port_spent, slices_fit}
use Rattle.board.specs.Windows.{window_of, program_word}
use Rattle.steps.specs.Rows.{first_given}
use Rattle.steps.specs.Refusals.{accesses, wrong_port, takes, sends, data_absent, input_dry, table_absent, output_full, pass_rows, access_rows, rest_rows}
use Rattle.steps.specs.Stores.{write_of, data_after, output_after}
use Rattle.steps.specs.OperandFound.{operand_found, found_for, outside_by}
use Rattle.steps.specs.Pass.{words_read, effect_of, passed_machine, passed_write, performed, plan_by}
use Rattle.steps.specs.Table.{decoded_at, second_address, second_word, not_repeatable, second_absent, table_for, check_rows, fetch_rows, encoding_rows, instruction_rows, repeat_rows}
use Rattle.steps.specs.Step.{page_plan, plan_of, after_store, step_of}
use Rattle.bench_values.specs.Cases.{cases, found, expected}

pub bench : found cases ≡ expected cases
unfolding signed low holds held settled carry no_borrow added subtracted product product_word left_by right_by product_shift shifted_product product_high product_low wrapped_sum wrapped_difference reversed reversed_sum reset_machine in_range low_fits modification_of next_of indirect_of address_mode_of decode_of traits_of accumulator_traits multiplier_traits auxiliary_traits moved pointed modified addressed address_of ADDK SUBK accumulator_rule PAC APAC SPAC MPY SQRA SQRS SPL SPH table_address multiplier_rule MAR auxiliary_rule rule_of followed destination data_region in_rom in_program_b0 program_present memories_fit port_fits port_spent slices_fit window_of program_word first_given accesses wrong_port takes sends data_absent input_dry table_absent output_full found_at operand_found found_for outside_by words_read effect_of write_of passed_machine passed_write performed data_after output_after decoded_at second_address second_word not_repeatable second_absent table_for check_rows fetch_rows encoding_rows instruction_rows repeat_rows pass_rows access_rows rest_rows plan_by page_plan plan_of after_store step_of
bench = refl
