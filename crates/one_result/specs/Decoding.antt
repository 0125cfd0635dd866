-- One possible result of each exported function: decoding.
use Rattle.operands.proofs.U8FromModification.from.Reads as ModificationBits
use Rattle.meanings.proofs.meaning.Reads as Meaning
use Rattle.kinds.proofs.kinds.Reads as Kinds
use Rattle.kinds.proofs.is_operand.Reads as IsOperand
use Rattle.kinds.proofs.is_indirect.Reads as IsIndirect
use Rattle.decoder.proofs.decode_by.Reads as DecodeBy
use Rattle.decoder.proofs.decode.Reads as Decode
use Rattle.encoder.proofs.encode.Reads as Encode
use Rattle.one_result.specs.One.{OneResult, same}

pub modification_bits : OneResult ModificationBits.Post
modification_bits κs a r r' e e' p q = same p q

pub meaning : OneResult Meaning.Post
meaning κs a r r' e e' p q = same p q

pub kinds : OneResult Kinds.Post
kinds κs a r r' e e' p q = same p q

pub is_operand : OneResult IsOperand.Post
is_operand κs a r r' e e' p q = same p q

pub is_indirect : OneResult IsIndirect.Post
is_indirect κs a r r' e e' p q = same p q

pub decode_by : OneResult DecodeBy.Post
decode_by κs a r r' e e' p q = same p q

pub decode : OneResult Decode.Post
decode κs a r r' e e' p q = same p q

pub encode : OneResult Encode.Post
encode κs a r r' e e' p q = same p q
