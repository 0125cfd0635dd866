-- Not routine: a place from 75 on means Unbuilt unless its page is among the built ones; that list is still empty, so there is nothing to rule out.
use Rattle.instructions.specs.Past.{later_built}
use Rattle.meanings.proofs.Later.{none_later}
use Rattle.meanings.proofs.later_page.Goals as goal

pub returns : goal.returns
unfolding later_built
returns c = none_later c.args.page c.args.w c.requires.0 c.requires.1 tt
