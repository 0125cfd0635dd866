-- The two runs, computed.
use Rattle.std.specs.Prelude.{refl, None}
use Rattle.alu.specs.Word.{signed, low}
use Rattle.alu.specs.Sums.{holds, no_borrow}
use Rattle.alu.specs.Shifts.{extended, operand}
use Rattle.alu.specs.PageSums.{alu_output, subtracted_conditionally}
use Rattle.alu.specs.Registers.{wrapped_sum}
use Rattle.machine.specs.Reset.{reset_machine}
use Rattle.machine.specs.Range.{in_range}
use Rattle.operands.specs.declared.Address.TheVariants.{Direct, Indirect}
use Rattle.operands.specs.declared.Modification.{Modification}
use Rattle.instructions.specs.declared.Instruction.TheVariants as Family
use Rattle.instructions.specs.declared.Modes.TheVariants.{Rpt, Rptk}
use Rattle.instructions.specs.Encoding.{low_fits, modification_of, next_of, indirect_of, address_mode_of}
use Rattle.instructions.specs.Decode.{decode_of}
use Rattle.pages.specs.Traits.{traits_of, accumulator_traits, modes_traits}
use Rattle.pages.specs.Addressing.{moved, pointed, modified, addressed, address_of}
use Rattle.pages.specs.AccumulatorPages.{SUBC}
use Rattle.pages.specs.AccumulatorRule.{accumulator_rule}
use Rattle.pages.specs.ModesPages.{RPT, RPTK}
use Rattle.pages.specs.ModesRule.{modes_rule}
use Rattle.pages.specs.Rules.{rule_of}
use Rattle.pages.specs.Passes.{followed, destination}
use Rattle.board.specs.Finding.{found_at}
use Rattle.board.specs.Regions.{data_region, in_rom, in_program_b0, program_present}
use Rattle.board.specs.Slices.{memories_fit, port_fits, port_spent, slices_fit}
use Rattle.board.specs.Windows.{window_of, program_word}
use Rattle.steps.specs.Rows.{first_given}
use Rattle.steps.specs.Refusals.{accesses, wrong_port, takes, sends, data_absent, input_dry, table_absent, output_full, pass_rows, access_rows, rest_rows}
use Rattle.steps.specs.Stores.{write_of, data_after, output_after}
use Rattle.steps.specs.OperandFound.{operand_found, found_for, outside_by}
use Rattle.steps.specs.Pass.{words_read, effect_of, passed_machine, passed_write, performed, plan_by}
use Rattle.steps.specs.Table.{checks_of, decoded_at, second_address, second_word, not_repeatable, second_absent, table_for, check_rows, fetch_rows, encoding_rows, instruction_rows, repeat_rows}
use Rattle.steps.specs.Step.{page_plan, plan_of, after_store, step_of, run_of}
use Rattle.laws.specs.Repeating.{word_ahead, by_rptk, by_rpt}
use Rattle.division.specs.Exposure.{direct, indirect}
use Rattle.division_cases.specs.ExposureCases.{guide_given, guide_world, guide_run, limit_given, limit_world, limit_run, ExposureCases}

pub exposure_cases : ExposureCases
unfolding signed low holds no_borrow extended operand alu_output subtracted_conditionally wrapped_sum reset_machine in_range low_fits modification_of next_of indirect_of address_mode_of decode_of traits_of accumulator_traits modes_traits moved pointed modified addressed address_of SUBC accumulator_rule RPT RPTK modes_rule rule_of followed destination data_region in_rom in_program_b0 program_present memories_fit port_fits port_spent slices_fit window_of program_word first_given accesses wrong_port takes sends data_absent input_dry table_absent output_full pass_rows access_rows rest_rows write_of data_after output_after found_at operand_found found_for outside_by words_read effect_of passed_machine passed_write performed plan_by checks_of decoded_at second_address second_word not_repeatable second_absent table_for check_rows fetch_rows encoding_rows instruction_rows repeat_rows page_plan plan_of after_store step_of run_of word_ahead guide_given guide_world guide_run limit_given limit_world limit_run
exposure_cases = record {
  guide_code = record {
    repeat = Family.Modes (Rptk 15);
    repeat_first = refl;
    repeat_gives = by_rptk 15;
    operand = Direct 2;
    still = direct 2;
    subc_second = refl;
    divisor_there = refl;
    not_refused = refl;
  };
  guide_end = refl;
  limit_code = record {
    repeat = Family.Modes (Rpt (Indirect (record { modification = Modification.Plus; next = None })));
    repeat_first = refl;
    repeat_gives = by_rpt (Indirect (record { modification = Modification.Plus; next = None }));
    operand = Indirect (record { modification = Modification.None; next = None });
    still = indirect;
    subc_second = refl;
    divisor_there = refl;
    not_refused = refl;
  };
  limit_end = refl;
}
