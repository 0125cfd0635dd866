-- Not routine: each part starts where the one before ends, so that the four stores together are the file as one run of bytes.
use Rattle.std.proofs.Common.{arith}
use Rattle.runfile.specs.Files.{file_length, head_words}
use Rattle.runfile_writing.specs.WritingLaws.{counts_within, length_within, file_put}
use Rattle.runfile_writing.proofs.Contents.put.Goals as goal

pub overflow_add-input_offset : goal.overflow_add-input_offset
overflow_add-input_offset c = let k = counts_within _ _ _ _ c.self.view_is c.requires.within in omega (arith, k.program_most, k.data_most)

pub overflow_cast-head : goal.overflow_cast-head
overflow_cast-head c = let k = counts_within _ _ _ _ c.self.view_is c.requires.within in omega (arith, k.program_most, k.data_most)

pub overflow_cast-head-3 : goal.overflow_cast-head-3
overflow_cast-head-3 c = let k = counts_within _ _ _ _ c.self.view_is c.requires.within in omega (arith, k.program_most, k.data_most)

pub overflow_cast-head-4 : goal.overflow_cast-head-4
overflow_cast-head-4 c = let k = counts_within _ _ _ _ c.self.view_is c.requires.within in omega (arith, k.program_most, k.data_most)

pub overflow_cast-head-5 : goal.overflow_cast-head-5
overflow_cast-head-5 c = let k = counts_within _ _ _ _ c.self.view_is c.requires.within in omega (arith, k.input_most)

pub overflow_cast-head-6 : goal.overflow_cast-head-6
overflow_cast-head-6 c = let k = counts_within _ _ _ _ c.self.view_is c.requires.within in omega (arith, k.program_most, k.data_most)

pub put_words-requires : goal.put_words-requires
unfolding file_length
put_words-requires c = let e = length_within _ _ _ _ c.self.view_is c.requires.within in omega (arith, e, c.requires.room)

pub put_words-requires-2 : goal.put_words-requires-2
unfolding file_length
put_words-requires-2 c = let e = length_within _ _ _ _ c.self.view_is c.requires.within in omega (arith, e, c.requires.room)

pub put_words-requires-3 : goal.put_words-requires-3
unfolding file_length
put_words-requires-3 c = let e = length_within _ _ _ _ c.self.view_is c.requires.within in omega (arith, e, c.requires.room)

pub put_words-requires-4 : goal.put_words-requires-4
unfolding file_length
put_words-requires-4 c = let e = length_within _ _ _ _ c.self.view_is c.requires.within in omega (arith, e, c.requires.room)

pub returns : goal.returns
unfolding head_words
returns c = rw (← c.self.view_is) (file_put _ _ _ _ _ _
    c.put_words.ensures
    c.put_words-2.ensures
    c.put_words-3.ensures
    c.put_words-4.ensures)
