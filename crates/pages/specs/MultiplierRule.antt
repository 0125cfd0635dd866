-- The rule of the family: each case by its page, with the data word, the program word of a MAC or MACD and the address that it was read at.
use Rattle.std.specs.Prelude.{ℕ}
use Rattle.machine.specs.declared.Machine.{Machine}
use Rattle.instructions.specs.declared.Multiplier.{Multiplier}
use Rattle.instructions.specs.declared.Multiplier.TheVariants.{Lt, Lta, Ltp, Ltd, Lts, Mpy, Mpya, Mpys, Mpyk, Sqra, Sqrs, Mac, Macd, Pac, Apac, Spac, Spl, Sph, Spm}
use Rattle.pages.specs.declared.Effect.{Effect}
use Rattle.pages.specs.Passes.{kept, stored, copied}
use Rattle.pages.specs.MultiplierPages.{LT, LTA, LTP, LTD, LTS, MPY, MPYA, MPYS, MPYK, SQRA, SQRS, MAC, MACD, PAC, APAC, SPAC, SPL, SPH, SPM}

unfoldable pub multiplier_rule : Multiplier → Machine → ℕ → ℕ → ℕ → Effect
multiplier_rule (Lt operand) m w table at = kept (LT w m)
multiplier_rule (Lta operand) m w table at = kept (LTA w m)
multiplier_rule (Ltp operand) m w table at = kept (LTP w m)
multiplier_rule (Ltd operand) m w table at = copied (LTD w m) w
multiplier_rule (Lts operand) m w table at = kept (LTS w m)
multiplier_rule (Mpy operand) m w table at = kept (MPY w m)
multiplier_rule (Mpya operand) m w table at = kept (MPYA w m)
multiplier_rule (Mpys operand) m w table at = kept (MPYS w m)
multiplier_rule (Mpyk k) m w table at = kept (MPYK k m)
multiplier_rule (Sqra operand) m w table at = kept (SQRA w m)
multiplier_rule (Sqrs operand) m w table at = kept (SQRS w m)
multiplier_rule (Mac operand) m w table at = kept (MAC w table at m)
multiplier_rule (Macd operand) m w table at = copied (MACD w table at m) w
multiplier_rule Pac m w table at = kept (PAC m)
multiplier_rule Apac m w table at = kept (APAC m)
multiplier_rule Spac m w table at = kept (SPAC m)
multiplier_rule (Spl operand) m w table at = stored m (SPL m)
multiplier_rule (Sph operand) m w table at = stored m (SPH m)
multiplier_rule (Spm k) m w table at = kept (SPM k m)
