-- What is shown of the lent slices, and the answer to asking for it: the fetch window and the words sent.
use Rattle.std.specs.Prelude.{cond, List, [], ℕ, ◌+◌, ◌-◌, length, take, get_or}
use Rattle.std.proofs.Math.Seq.{slice}
use Rattle.std.specs.Borrow.{Bor}
use Rattle.machine.specs.declared.Machine.{Machine}
use Rattle.machine.specs.Range.{in_range}
use Rattle.answers.specs.Answers.{Answer}
use Rattle.answers.specs.Answers.{Done, CellOutOfRange, SlicesUnfit, ProgramAbsent}
use Rattle.answers.specs.Numbers.{is_done}
use Rattle.board.specs.Regions.{in_rom, in_program_b0, program_present}
use Rattle.board.specs.Slices.{memories_fit, port_fits, part_start}

-- "the run of words from the asked program address to the end of its region, shown in whichever of the two lent memories holds it"; "it stays in the lent data slice at 0200h"
unfoldable pub window_of : ℕ → ℕ → List ℕ → List ℕ → List ℕ
window_of cnf address rom «data» =
    cond (in_rom address) (slice address 0x1000 rom)
    (cond (in_program_b0 cnf address) (slice (address - 0xFF00 + 0x200) 0x300 «data»)
    [])

-- "in whichever of the two lent memories holds it, without copying": where the window begins; at an absent address, and on a refusal, where the ROM begins
unfoldable pub window_start : ℕ → ℕ → Bor (List ℕ) → Bor (List ℕ) → ℕ × ℕ
window_start cnf address rom «data» =
    cond (in_rom address) (part_start address 0x1000 rom)
    (cond (in_program_b0 cnf address) (part_start (address - 0xFF00 + 0x200) 0x300 «data»)
    rom.ref_ptr)

-- the program word at an address
unfoldable pub program_word : ℕ → ℕ → List ℕ → List ℕ → ℕ
program_word cnf address rom «data» = get_or (window_of cnf address rom «data») 0 0

-- "Asking for a window or for the words sent makes checks 1 and 2 first, 2 over the slices lent to it"; "An absent address has an empty window and answer 5"
unfoldable pub window_answer : Machine → ℕ → List ℕ → List ℕ → Answer
window_answer m address rom «data» =
    cond (in_range m)
    (cond (memories_fit rom «data»)
    (cond (program_present m.cnf address) Done
    ProgramAbsent)
    SlicesUnfit)
    CellOutOfRange

-- "a refusal shows an empty part"
unfoldable pub window_shown : Machine → ℕ → List ℕ → List ℕ → List ℕ
window_shown m address rom «data» =
    cond (is_done (window_answer m address rom «data»)) (window_of m.cnf address rom «data») []

unfoldable pub window_shown_start : Machine → ℕ → Bor (List ℕ) → Bor (List ℕ) → ℕ × ℕ
window_shown_start m address rom «data» =
    cond (is_done (window_answer m address rom.now «data».now)) (window_start m.cnf address rom «data») rom.ref_ptr

-- the output slice and its cursor are all that is lent here (ruling R32)
unfoldable pub words_sent_answer : Machine → List ℕ → Answer
words_sent_answer m output =
    cond (in_range m)
    (cond (port_fits (length output) m.output_cursor) Done
    SlicesUnfit)
    CellOutOfRange

-- "the words sent so far can be asked for as a part of the caller's own slice": the output slice up to the cursor, whatever stood before a cursor handed in above 0 (ruling R32)
unfoldable pub words_sent : Machine → List ℕ → List ℕ
words_sent m output =
    cond (is_done (words_sent_answer m output)) (take m.output_cursor output) []
