-- One possible result of each exported function: the machine, the answers and the board.
use Rattle.hardware_stack.proofs.Stack.pushed.Reads as Pushed
use Rattle.hardware_stack.proofs.Stack.popped.Reads as Popped
use Rattle.hardware_stack.proofs.Stack.top.Reads as Top
use Rattle.hardware_stack.proofs.Stack.push.Reads as Push
use Rattle.hardware_stack.proofs.Stack.pop.Reads as Pop
use Rattle.machine.proofs.Machine.reset.Reads as Reset
use Rattle.machine.proofs.Machine.in_range.Reads as InRange
use Rattle.machine.proofs.push_on.Reads as PushOn
use Rattle.machine.proofs.pop_on.Reads as PopOn
use Rattle.answers.proofs.number.Reads as Number
use Rattle.answers.proofs.U8FromRefusal.from.Reads as RefusalNumber
use Rattle.passes.proofs.with_sum.Reads as WithSum
use Rattle.passes.proofs.add_to_acc.Reads as AddToAcc
use Rattle.passes.proofs.subtract_from_acc.Reads as SubtractFromAcc
use Rattle.passes.proofs.keep.Reads as Keep
use Rattle.passes.proofs.store_word.Reads as PassesStoreWord
use Rattle.passes.proofs.copy_word.Reads as CopyWord
use Rattle.passes.proofs.send_word.Reads as SendWord
use Rattle.passes.proofs.jump_to.Reads as JumpTo
use Rattle.passes.proofs.follow.Reads as Follow
use Rattle.traits.proofs.traits_of.Reads as TraitsOf
use Rattle.addressing.proofs.register_of.Reads as RegisterOf
use Rattle.addressing.proofs.with_register.Reads as WithRegister
use Rattle.addressing.proofs.modify.Reads as Modify
use Rattle.addressing.proofs.after_operand.Reads as AfterOperand
use Rattle.addressing.proofs.address_of.Reads as AddressOf
use Rattle.board.proofs.Lent.new.Reads as LentNew
use Rattle.board.proofs.Lent.rom.Reads as LentRom
use Rattle.board.proofs.Lent.data.Reads as LentData
use Rattle.board.proofs.Lent.input.Reads as LentInput
use Rattle.board.proofs.Lent.output_length.Reads as LentOutputLength
use Rattle.regions.proofs.region_present.Reads as RegionPresent
use Rattle.regions.proofs.region_on_chip.Reads as RegionOnChip
use Rattle.regions.proofs.data_region.Reads as DataRegion
use Rattle.regions.proofs.access_outside.Reads as AccessOutside
use Rattle.regions.proofs.on_chip.Reads as OnChip
use Rattle.regions.proofs.move_allowed.Reads as MoveAllowed
use Rattle.regions.proofs.in_rom.Reads as InRom
use Rattle.regions.proofs.in_program_b0.Reads as InProgramB0
use Rattle.regions.proofs.program_present.Reads as ProgramPresent
use Rattle.slices.proofs.memories_fit.Reads as MemoriesFit
use Rattle.slices.proofs.port_fits.Reads as PortFits
use Rattle.slices.proofs.port_spent.Reads as PortSpent
use Rattle.slices.proofs.slices_fit.Reads as SlicesFit
use Rattle.slices.proofs.part.Reads as Part
use Rattle.slices.proofs.input_word.Reads as InputWord
use Rattle.slices.proofs.store_at.Reads as StoreAt
use Rattle.slices.proofs.store_word.Reads as SlicesStoreWord
use Rattle.windows.proofs.region_window.Reads as RegionWindow
use Rattle.windows.proofs.window_answer.Reads as WindowAnswer
use Rattle.windows.proofs.window.Reads as Window
use Rattle.windows.proofs.words_sent_answer.Reads as WordsSentAnswer
use Rattle.windows.proofs.words_sent.Reads as WordsSent
use Rattle.one_result.specs.One.{OneOutcome, OneResult, OnePart, pair, same, same_pair}

pub pushed : OneResult Pushed.Post
pushed κs a r r' e e' p q = same p q

pub popped : OneResult Popped.Post
popped κs a r r' e e' p q = same p q

pub top : OneResult Top.Post
top κs a r r' e e' p q = same p q

pub push : OneOutcome Push.Post (λ r e. e.0.now)
push κs a r r' e e' p q = same p q

pub pop : OneOutcome Pop.Post (λ r e. pair r e.0.now)
pop κs a r r' e e' p q = same_pair (same p.0 q.0) (same p.1 q.1)

pub reset : OneResult Reset.Post
reset κs a r r' e e' p q = same p q

pub in_range : OneResult InRange.Post
in_range κs a r r' e e' p q = same p q

pub push_on : OneResult PushOn.Post
push_on κs a r r' e e' p q = same p q

pub pop_on : OneResult PopOn.Post
pop_on κs a r r' e e' p q = same p q

pub number : OneResult Number.Post
number κs a r r' e e' p q = same p q

pub refusal_number : OneResult RefusalNumber.Post
refusal_number κs a r r' e e' p q = same p q

pub with_sum : OneResult WithSum.Post
with_sum κs a r r' e e' p q = same p q

pub add_to_acc : OneResult AddToAcc.Post
add_to_acc κs a r r' e e' p q = same p q

pub subtract_from_acc : OneResult SubtractFromAcc.Post
subtract_from_acc κs a r r' e e' p q = same p q

pub keep : OneResult Keep.Post
keep κs a r r' e e' p q = same p q

pub passes_store_word : OneResult PassesStoreWord.Post
passes_store_word κs a r r' e e' p q = same p q

pub copy_word : OneResult CopyWord.Post
copy_word κs a r r' e e' p q = same p q

pub send_word : OneResult SendWord.Post
send_word κs a r r' e e' p q = same p q

pub jump_to : OneResult JumpTo.Post
jump_to κs a r r' e e' p q = same p q

pub follow : OneResult Follow.Post
follow κs a r r' e e' p q = same p q

pub traits_of : OneResult TraitsOf.Post
traits_of κs a r r' e e' p q = same p q

pub register_of : OneResult RegisterOf.Post
register_of κs a r r' e e' p q = same p q

pub with_register : OneResult WithRegister.Post
with_register κs a r r' e e' p q = same p q

pub modify : OneResult Modify.Post
modify κs a r r' e e' p q = same p q

pub after_operand : OneResult AfterOperand.Post
after_operand κs a r r' e e' p q = same p q

pub address_of : OneResult AddressOf.Post
address_of κs a r r' e e' p q = same p q

pub lent_new : OneResult LentNew.Post
lent_new κs a r r' e e' p q = same p q

pub lent_rom : OnePart LentRom.Post
lent_rom κs a r r' e e' p q = same_pair (same p.0 q.0) (same p.1 q.1)

pub lent_data : OnePart LentData.Post
lent_data κs a r r' e e' p q = same_pair (same p.0 q.0) (same p.1 q.1)

pub lent_input : OnePart LentInput.Post
lent_input κs a r r' e e' p q = same_pair (same p.0 q.0) (same p.1 q.1)

pub lent_output_length : OneResult LentOutputLength.Post
lent_output_length κs a r r' e e' p q = same p q

pub region_present : OneResult RegionPresent.Post
region_present κs a r r' e e' p q = same p q

pub region_on_chip : OneResult RegionOnChip.Post
region_on_chip κs a r r' e e' p q = same p q

pub data_region : OneResult DataRegion.Post
data_region κs a r r' e e' p q = same p q

pub access_outside : OneResult AccessOutside.Post
access_outside κs a r r' e e' p q = same p q

pub on_chip : OneResult OnChip.Post
on_chip κs a r r' e e' p q = same p q

pub move_allowed : OneResult MoveAllowed.Post
move_allowed κs a r r' e e' p q = same p q

pub in_rom : OneResult InRom.Post
in_rom κs a r r' e e' p q = same p q

pub in_program_b0 : OneResult InProgramB0.Post
in_program_b0 κs a r r' e e' p q = same p q

pub program_present : OneResult ProgramPresent.Post
program_present κs a r r' e e' p q = same p q

pub memories_fit : OneResult MemoriesFit.Post
memories_fit κs a r r' e e' p q = same p q

pub port_fits : OneResult PortFits.Post
port_fits κs a r r' e e' p q = same p q

pub port_spent : OneResult PortSpent.Post
port_spent κs a r r' e e' p q = same p q

pub slices_fit : OneResult SlicesFit.Post
slices_fit κs a r r' e e' p q = same p q

pub part : OnePart Part.Post
part κs a r r' e e' p q = same_pair (same p.0 q.0) (same p.1 q.1)

pub input_word : OneResult InputWord.Post
input_word κs a r r' e e' p q = same p q

pub store_at : OneOutcome StoreAt.Post (λ r e. e.0.now)
store_at κs a r r' e e' p q = same p q

pub slices_store_word : OneOutcome SlicesStoreWord.Post (λ r e. e.0.now)
slices_store_word κs a r r' e e' p q = same p q

pub region_window : OnePart RegionWindow.Post
region_window κs a r r' e e' p q = same_pair (same p.0 q.0) (same p.1 q.1)

pub window_answer : OneResult WindowAnswer.Post
window_answer κs a r r' e e' p q = same p q

pub window : OnePart Window.Post
window κs a r r' e e' p q = same_pair (same p.0 q.0) (same p.1 q.1)

pub words_sent_answer : OneResult WordsSentAnswer.Post
words_sent_answer κs a r r' e e' p q = same p q

pub words_sent : OnePart WordsSent.Post
words_sent κs a r r' e e' p q = same_pair (same p.0 q.0) (same p.1 q.1)
