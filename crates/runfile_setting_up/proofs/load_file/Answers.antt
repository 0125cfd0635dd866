-- Not routine: an accepted file's sections lie end to end up to its end, and 3,072 words from 0400h on end with the memory, so that every load fits.
use Rattle.runfile_setting_up.specs.SetUpLaws.{sections_loaded}
use Rattle.runfile_setting_up.proofs.load_file.Goals as goal

pub returns : goal.returns
returns c = sections_loaded _ _ _ _ _ _
    c.requires.done.input_size
    c.requires.numbers
    c.fill_memory.ensures
    c.fill_memory-2.ensures
    c.load_words.ensures
