-- The stack at the edges meets the premises, and comes to what was worked out by hand.
use Rattle.std.specs.Prelude.{refl, List, [], ℕ, get_or, None}
use Rattle.std.proofs.Common.{ap, arith}
use Rattle.alu.specs.Word.{signed, low}
use Rattle.alu.specs.Sums.{holds, held, settled, carry, added}
use Rattle.alu.specs.Products.{product, product_word, left_by, right_by, product_shift, shifted_product}
use Rattle.alu.specs.Registers.{wrapped_sum}
use Rattle.machine.specs.Reset.{reset_machine}
use Rattle.machine.specs.Range.{in_range}
use Rattle.answers.specs.Answers.{Done}
use Rattle.answers.specs.Numbers.{is_done}
use Rattle.answers.proofs.NumberLaws.{number_injective}
use Rattle.instructions.specs.Encoding.{low_fits, modification_of, next_of, indirect_of, address_mode_of}
use Rattle.instructions.specs.Decode.{decode_of}
use Rattle.pages.specs.Traits.{traits_of, multiplier_traits, modes_traits}
use Rattle.pages.specs.Addressing.{moved, pointed, modified, addressed, address_of}
use Rattle.pages.specs.MultiplierPages.{APAC, MAC, MACD, table_address}
use Rattle.pages.specs.ModesPages.{RPT}
use Rattle.pages.specs.ModesRule.{modes_rule}
use Rattle.pages.specs.MultiplierRule.{multiplier_rule}
use Rattle.pages.specs.Rules.{rule_of}
use Rattle.pages.specs.Passes.{followed, destination}
use Rattle.board.specs.Finding.{found_at}
use Rattle.board.specs.Regions.{data_region, on_chip, move_allowed, in_rom, in_program_b0, program_present}
use Rattle.board.specs.Slices.{memories_fit, port_fits, port_spent, slices_fit}
use Rattle.board.specs.Windows.{window_of, program_word}
use Rattle.board.specs.Given.{given}
use Rattle.steps.specs.Rows.{first_given}
use Rattle.steps.specs.Refusals.{accesses, wrong_port, takes, sends, data_absent, input_dry, table_absent, output_full, pass_rows, access_rows, rest_rows}
use Rattle.steps.specs.Stores.{write_of, data_after, output_after}
use Rattle.steps.specs.OperandFound.{operand_found, found_for, outside_by}
use Rattle.steps.specs.Pass.{words_read, effect_of, passed_machine, passed_write, performed, plan_by}
use Rattle.steps.specs.Table.{checks_of, decoded_at, second_address, second_word, not_repeatable, second_absent, table_for, check_rows, fetch_rows, encoding_rows, instruction_rows, repeat_rows}
use Rattle.steps.specs.Step.{page_plan, plan_of, after_store, step_of, run_of}
use Rattle.instructions.specs.declared.Instruction.TheVariants as Family
use Rattle.operands.specs.declared.Address.{Address}
use Rattle.operands.specs.declared.Address.TheVariants.{Direct, Indirect}
use Rattle.operands.specs.declared.Modification.TheVariants.{Plus}
use Rattle.instructions.specs.declared.Modes.TheVariants.{Rpt}
use Rattle.instructions.specs.declared.Multiplier.TheVariants.{Macd}
use Rattle.frame_sums.specs.Frames.{exact_sum}
use Rattle.laws.specs.Repeating.{word_ahead, by_rpt}
use Rattle.stacking.specs.Stacking.{pair_for, pair_at, pairs_read, words, by_macd, Stacks, Holds}
use Rattle.stacking.specs.Demand.{demand}
use Rattle.stacking_cases.specs.EdgeCase.{edge_rom, edge_data, edge_machine, edge_world, edge_run, EdgeCase}
use Rattle.stacking_cases.specs.SizedLaws.{all_sized, sized_by}

pub edge_case : EdgeCase
unfolding signed low holds held settled carry added product product_word left_by right_by product_shift shifted_product wrapped_sum reset_machine in_range low_fits modification_of next_of indirect_of address_mode_of decode_of traits_of multiplier_traits moved pointed modified addressed address_of APAC table_address multiplier_rule rule_of followed destination data_region on_chip move_allowed in_rom in_program_b0 program_present memories_fit port_fits port_spent slices_fit window_of program_word first_given accesses wrong_port takes sends data_absent input_dry table_absent output_full found_at operand_found found_for outside_by words_read effect_of write_of passed_machine passed_write performed data_after output_after decoded_at second_address second_word not_repeatable second_absent table_for check_rows fetch_rows encoding_rows instruction_rows repeat_rows pass_rows access_rows rest_rows plan_by page_plan plan_of after_store step_of modes_traits MAC MACD RPT modes_rule checks_of run_of pair_for pair_at pairs_read words exact_sum edge_rom edge_data edge_machine edge_world edge_run
edge_case = record { comes_to = refl; leaves = refl; reads = refl; exact = refl }

-- *+
abbrev plus_one : Address
plus_one = Indirect (record { modification = Plus; next = None })

pub edge_stacks : Stacks (given edge_rom []) edge_world 3
unfolding word_ahead all_sized wrapped_sum reset_machine low_fits modification_of next_of indirect_of address_mode_of decode_of address_of in_rom in_program_b0 window_of program_word decoded_at edge_rom edge_data edge_machine edge_world edge_run
edge_stacks = record {
  acc_zero = refl;
  p_zero = refl;
  ov_zero = refl;
  shift_three = refl;
  no_repeat = refl;
  repeat = Family.Modes (Rpt (Direct 5));
  repeat_first = refl;
  repeat_gives = by_rpt (Direct 5);
  accumulate = Family.Multiplier (Macd plus_one);
  accumulate_second = refl;
  accumulates = by_macd plus_one;
  apac_third = refl;
  not_refused = ap is_done (number_injective edge_run.answer Done (ap (λ (l : List ℕ). get_or l 0 0) edge_case.comes_to));
  rom_sized = sized_by edge_rom refl;
  data_sized = sized_by edge_data refl;
}

-- so OV stays 0 in it, and the bounds hold
pub edge_holds : Holds (given edge_rom []) edge_world 3
edge_holds = demand (given edge_rom []) edge_world 3 edge_stacks (omega arith)
