-- One possible result of each exported function: the pages.
use Rattle.accumulator.proofs.rule.Reads as AccumulatorRule
use Rattle.addressing.proofs.table_address.Reads as TableAddress
use Rattle.multiplier.proofs.rule.Reads as MultiplierRule
use Rattle.auxiliary.proofs.rule.Reads as AuxiliaryRule
use Rattle.branches.proofs.rule.Reads as BranchesRule
use Rattle.transfers.proofs.rule.Reads as TransfersRule
use Rattle.modes.proofs.rule.Reads as ModesRule
use Rattle.one_result.specs.One.{OneResult, same}

pub accumulator_rule : OneResult AccumulatorRule.Post
accumulator_rule κs a r r' e e' p q = same p q

pub table_address : OneResult TableAddress.Post
table_address κs a r r' e e' p q = same p q

pub multiplier_rule : OneResult MultiplierRule.Post
multiplier_rule κs a r r' e e' p q = same p q

pub auxiliary_rule : OneResult AuxiliaryRule.Post
auxiliary_rule κs a r r' e e' p q = same p q

pub branches_rule : OneResult BranchesRule.Post
branches_rule κs a r r' e e' p q = same p q

pub transfers_rule : OneResult TransfersRule.Post
transfers_rule κs a r r' e e' p q = same p q

pub modes_rule : OneResult ModesRule.Post
modes_rule κs a r r' e e' p q = same p q
