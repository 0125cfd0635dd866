-- The 133 pages of section 4.3, one row for each: the bits as the page (or Table 4-4) prints them, and what the page makes of them.
-- A page's place in the list, from 0 on, is its number for good: the decoder's tables hold these numbers. Whether a page is built is the
-- mark of its row, `page` or `unbuilt`; a page that is built later stands where it stood.
use Rattle.std.specs.Prelude.{List, [], ◌∷◌, ◌++◌}
use Rattle.instructions.specs.Encoding.{Page, page, unbuilt, address_mode_of, indirect_of}
use Rattle.instructions.specs.declared.Accumulator.TheVariants.{Add, Sub, Lac, Addh, Adds, Subh, Subs, Subc, Zalh, Zals, And, Or, Xor, Sacl, Sach, Lack, Addk, Subk, Cmpl, Neg, Abs, Sfl, Sfr}
use Rattle.instructions.specs.declared.Multiplier.TheVariants.{Lt, Lta, Ltp, Ltd, Lts, Mpy, Mpya, Mpys, Sqra, Sqrs, Mac, Macd, Spl, Sph, Mpyk, Pac, Apac, Spac, Spm}
use Rattle.instructions.specs.declared.Auxiliary.TheVariants.{Lar, Sar, Mar, Ldp, Lark, Adrk, Sbrk, Ldpk}
use Rattle.instructions.specs.declared.Branches.TheVariants.{B, Banz, Bz, Bnz, Bgz, Bgez, Blz, Blez, Bv, Bnv, Call, Ret}
use Rattle.instructions.specs.declared.Transfers.TheVariants.{Dmov, In, Out}
use Rattle.instructions.specs.declared.Modes.TheVariants.{Rpt, Rptk, Sovm, Rovm, Ssxm, Rsxm, Cnfd, Cnfp, Push, Pop}
use Rattle.instructions.specs.Encoding.{accumulator, multiplier, auxiliary, branches, transfers, modes}

-- The base: the accumulator. Places 0 to 22.
abbrev pub accumulator_pages : List Page
accumulator_pages =
    page "ADD" "0000 SSSS" "IDDD DDDD" (λ f low. accumulator (Add (f "S") (address_mode_of low))) ∷
    page "SUB" "0001 SSSS" "IDDD DDDD" (λ f low. accumulator (Sub (f "S") (address_mode_of low))) ∷
    page "LAC" "0010 SSSS" "IDDD DDDD" (λ f low. accumulator (Lac (f "S") (address_mode_of low))) ∷
    page "ADDH" "0100 1000" "IDDD DDDD" (λ f low. accumulator (Addh (address_mode_of low))) ∷
    page "ADDS" "0100 1001" "IDDD DDDD" (λ f low. accumulator (Adds (address_mode_of low))) ∷
    page "SUBH" "0100 0100" "IDDD DDDD" (λ f low. accumulator (Subh (address_mode_of low))) ∷
    page "SUBS" "0100 0101" "IDDD DDDD" (λ f low. accumulator (Subs (address_mode_of low))) ∷
    page "SUBC" "0100 0111" "IDDD DDDD" (λ f low. accumulator (Subc (address_mode_of low))) ∷
    page "ZALH" "0100 0000" "IDDD DDDD" (λ f low. accumulator (Zalh (address_mode_of low))) ∷
    page "ZALS" "0100 0001" "IDDD DDDD" (λ f low. accumulator (Zals (address_mode_of low))) ∷
    page "AND" "0100 1110" "IDDD DDDD" (λ f low. accumulator (And (address_mode_of low))) ∷
    page "OR" "0100 1101" "IDDD DDDD" (λ f low. accumulator (Or (address_mode_of low))) ∷
    page "XOR" "0100 1100" "IDDD DDDD" (λ f low. accumulator (Xor (address_mode_of low))) ∷
    page "SACL" "0110 0XXX" "IDDD DDDD" (λ f low. accumulator (Sacl (f "X") (address_mode_of low))) ∷
    page "SACH" "0110 1XXX" "IDDD DDDD" (λ f low. accumulator (Sach (f "X") (address_mode_of low))) ∷
    page "LACK" "1100 1010" "KKKK KKKK" (λ f low. accumulator (Lack (f "K"))) ∷
    page "ADDK" "1100 1100" "KKKK KKKK" (λ f low. accumulator (Addk (f "K"))) ∷
    page "SUBK" "1100 1101" "KKKK KKKK" (λ f low. accumulator (Subk (f "K"))) ∷
    page "CMPL" "1100 1110" "0010 0111" (λ f low. accumulator Cmpl) ∷
    page "NEG" "1100 1110" "0010 0011" (λ f low. accumulator Neg) ∷
    page "ABS" "1100 1110" "0001 1011" (λ f low. accumulator Abs) ∷
    page "SFL" "1100 1110" "0001 1000" (λ f low. accumulator Sfl) ∷
    page "SFR" "1100 1110" "0001 1001" (λ f low. accumulator Sfr) ∷
    []

-- The base: T, P and multiplication. Places 23 to 41.
abbrev pub multiplier_pages : List Page
multiplier_pages =
    page "LT" "0011 1100" "IDDD DDDD" (λ f low. multiplier (Lt (address_mode_of low))) ∷
    page "LTA" "0011 1101" "IDDD DDDD" (λ f low. multiplier (Lta (address_mode_of low))) ∷
    page "LTP" "0011 1110" "IDDD DDDD" (λ f low. multiplier (Ltp (address_mode_of low))) ∷
    page "LTD" "0011 1111" "IDDD DDDD" (λ f low. multiplier (Ltd (address_mode_of low))) ∷
    page "LTS" "0101 1011" "IDDD DDDD" (λ f low. multiplier (Lts (address_mode_of low))) ∷
    page "MPY" "0011 1000" "IDDD DDDD" (λ f low. multiplier (Mpy (address_mode_of low))) ∷
    page "MPYA" "0011 1010" "IDDD DDDD" (λ f low. multiplier (Mpya (address_mode_of low))) ∷
    page "MPYS" "0011 1011" "IDDD DDDD" (λ f low. multiplier (Mpys (address_mode_of low))) ∷
    page "SQRA" "0011 1001" "IDDD DDDD" (λ f low. multiplier (Sqra (address_mode_of low))) ∷
    page "SQRS" "0101 1010" "IDDD DDDD" (λ f low. multiplier (Sqrs (address_mode_of low))) ∷
    page "MAC" "0101 1101" "IDDD DDDD" (λ f low. multiplier (Mac (address_mode_of low))) ∷
    page "MACD" "0101 1100" "IDDD DDDD" (λ f low. multiplier (Macd (address_mode_of low))) ∷
    page "SPL" "0111 1100" "IDDD DDDD" (λ f low. multiplier (Spl (address_mode_of low))) ∷
    page "SPH" "0111 1101" "IDDD DDDD" (λ f low. multiplier (Sph (address_mode_of low))) ∷
    page "MPYK" "101K KKKK" "KKKK KKKK" (λ f low. multiplier (Mpyk (f "K"))) ∷
    page "PAC" "1100 1110" "0001 0100" (λ f low. multiplier Pac) ∷
    page "APAC" "1100 1110" "0001 0101" (λ f low. multiplier Apac) ∷
    page "SPAC" "1100 1110" "0001 0110" (λ f low. multiplier Spac) ∷
    page "SPM" "1100 1110" "0000 10KK" (λ f low. multiplier (Spm (f "K"))) ∷
    []

-- The base: auxiliary registers and the data page. Places 42 to 49.
abbrev pub auxiliary_pages : List Page
auxiliary_pages =
    page "LAR" "0011 0RRR" "IDDD DDDD" (λ f low. auxiliary (Lar (f "R") (address_mode_of low))) ∷
    page "SAR" "0111 0RRR" "IDDD DDDD" (λ f low. auxiliary (Sar (f "R") (address_mode_of low))) ∷
    page "MAR" "0101 0101" "IDDD DDDD" (λ f low. auxiliary (Mar (address_mode_of low))) ∷
    page "LDP" "0101 0010" "IDDD DDDD" (λ f low. auxiliary (Ldp (address_mode_of low))) ∷
    page "LARK" "1100 0RRR" "KKKK KKKK" (λ f low. auxiliary (Lark (f "R") (f "K"))) ∷
    page "ADRK" "0111 1110" "KKKK KKKK" (λ f low. auxiliary (Adrk (f "K"))) ∷
    page "SBRK" "0111 1111" "KKKK KKKK" (λ f low. auxiliary (Sbrk (f "K"))) ∷
    page "LDPK" "1100 100K" "KKKK KKKK" (λ f low. auxiliary (Ldpk (f "K"))) ∷
    []

-- The base: branches, CALL and RET. BZ is lost: Table 4-4 (ruling R6). Places 50 to 61.
abbrev pub branch_pages : List Page
branch_pages =
    page "B" "1111 1111" "1DDD DDDD" (λ f low. branches (B (indirect_of low))) ∷
    page "BANZ" "1111 1011" "1DDD DDDD" (λ f low. branches (Banz (indirect_of low))) ∷
    page "BZ" "1111 0110" "1DDD DDDD" (λ f low. branches (Bz (indirect_of low))) ∷
    page "BNZ" "1111 0101" "1DDD DDDD" (λ f low. branches (Bnz (indirect_of low))) ∷
    page "BGZ" "1111 0001" "1DDD DDDD" (λ f low. branches (Bgz (indirect_of low))) ∷
    page "BGEZ" "1111 0100" "1DDD DDDD" (λ f low. branches (Bgez (indirect_of low))) ∷
    page "BLZ" "1111 0011" "1DDD DDDD" (λ f low. branches (Blz (indirect_of low))) ∷
    page "BLEZ" "1111 0010" "1DDD DDDD" (λ f low. branches (Blez (indirect_of low))) ∷
    page "BV" "1111 0000" "1DDD DDDD" (λ f low. branches (Bv (indirect_of low))) ∷
    page "BNV" "1111 0111" "1DDD DDDD" (λ f low. branches (Bnv (indirect_of low))) ∷
    page "CALL" "1111 1110" "1DDD DDDD" (λ f low. branches (Call (indirect_of low))) ∷
    page "RET" "1100 1110" "0010 0110" (λ f low. branches Ret) ∷
    []

-- The base: the data move and the ports. Places 62 to 64.
abbrev pub transfer_pages : List Page
transfer_pages =
    page "DMOV" "0101 0110" "IDDD DDDD" (λ f low. transfers (Dmov (address_mode_of low))) ∷
    page "IN" "1000 AAAA" "IDDD DDDD" (λ f low. transfers (In (f "A") (address_mode_of low))) ∷
    page "OUT" "1110 AAAA" "IDDD DDDD" (λ f low. transfers (Out (f "A") (address_mode_of low))) ∷
    []

-- The base: modes, repeats and the stack. ROVM is lost: Table 4-4 (ruling R6). Places 65 to 74.
abbrev pub mode_pages : List Page
mode_pages =
    page "RPT" "0100 1011" "IDDD DDDD" (λ f low. modes (Rpt (address_mode_of low))) ∷
    page "RPTK" "1100 1011" "KKKK KKKK" (λ f low. modes (Rptk (f "K"))) ∷
    page "SOVM" "1100 1110" "0000 0011" (λ f low. modes Sovm) ∷
    page "ROVM" "1100 1110" "0000 0010" (λ f low. modes Rovm) ∷
    page "SSXM" "1100 1110" "0000 0111" (λ f low. modes Ssxm) ∷
    page "RSXM" "1100 1110" "0000 0110" (λ f low. modes Rsxm) ∷
    page "CNFD" "1100 1110" "0000 0100" (λ f low. modes Cnfd) ∷
    page "CNFP" "1100 1110" "0000 0101" (λ f low. modes Cnfp) ∷
    page "PUSH" "1100 1110" "0001 1100" (λ f low. modes Push) ∷
    page "POP" "1100 1110" "0001 1101" (λ f low. modes Pop) ∷
    []

-- Not in the base: pages with direct and indirect addressing. Places 75 to 94.
abbrev pub other_addressed : List Page
other_addressed =
    unbuilt "ADDC" "0100 0011" "IDDD DDDD" ∷
    unbuilt "ADDT" "0100 1010" "IDDD DDDD" ∷
    unbuilt "LACT" "0100 0010" "IDDD DDDD" ∷
    unbuilt "SUBB" "0100 1111" "IDDD DDDD" ∷
    unbuilt "SUBT" "0100 0110" "IDDD DDDD" ∷
    unbuilt "ZALR" "0111 1011" "IDDD DDDD" ∷
    unbuilt "LPH" "0101 0011" "IDDD DDDD" ∷
    unbuilt "MPYU" "1100 1111" "IDDD DDDD" ∷
    unbuilt "BLKD" "1111 1101" "IDDD DDDD" ∷
    unbuilt "BLKP" "1111 1100" "IDDD DDDD" ∷
    unbuilt "TBLR" "0101 1000" "IDDD DDDD" ∷
    unbuilt "TBLW" "0101 1001" "IDDD DDDD" ∷
    unbuilt "BIT" "1001 BBBB" "IDDD DDDD" ∷
    unbuilt "BITT" "0101 0111" "IDDD DDDD" ∷
    unbuilt "LST" "0101 0000" "IDDD DDDD" ∷
    unbuilt "LST1" "0101 0001" "IDDD DDDD" ∷
    unbuilt "POPD" "0111 1010" "IDDD DDDD" ∷
    unbuilt "PSHD" "0101 0100" "IDDD DDDD" ∷
    unbuilt "SST" "0111 1000" "IDDD DDDD" ∷
    unbuilt "SST1" "0111 1001" "IDDD DDDD" ∷
    []

-- Not in the base: branches. Places 95 to 99.
abbrev pub other_branches : List Page
other_branches =
    unbuilt "BBNZ" "1111 1001" "1DDD DDDD" ∷
    unbuilt "BBZ" "1111 1000" "1DDD DDDD" ∷
    unbuilt "BC" "0101 1110" "1DDD DDDD" ∷
    unbuilt "BIOZ" "1111 1010" "1DDD DDDD" ∷
    unbuilt "BNC" "0101 1111" "1DDD DDDD" ∷
    []

-- Not in the base: pages with the upper byte CEh. SC is lost: Table 4-4 (ruling R6). Places 100 to 122.
abbrev pub other_controls : List Page
other_controls =
    unbuilt "BACC" "1100 1110" "0010 0101" ∷
    unbuilt "CALA" "1100 1110" "0010 0100" ∷
    unbuilt "CMPR" "1100 1110" "0101 00KK" ∷
    unbuilt "DINT" "1100 1110" "0000 0001" ∷
    unbuilt "EINT" "1100 1110" "0000 0000" ∷
    unbuilt "FORT" "1100 1110" "0000 111K" ∷
    unbuilt "IDLE" "1100 1110" "0001 1111" ∷
    unbuilt "RC" "1100 1110" "0011 0000" ∷
    unbuilt "RFSM" "1100 1110" "0011 0110" ∷
    unbuilt "RHM" "1100 1110" "0011 1000" ∷
    unbuilt "ROL" "1100 1110" "0011 0100" ∷
    unbuilt "ROR" "1100 1110" "0011 0101" ∷
    unbuilt "RTC" "1100 1110" "0011 0010" ∷
    unbuilt "RTXM" "1100 1110" "0010 0000" ∷
    unbuilt "RXF" "1100 1110" "0000 1100" ∷
    unbuilt "SC" "1100 1110" "0011 0001" ∷
    unbuilt "SFSM" "1100 1110" "0011 0111" ∷
    unbuilt "SHM" "1100 1110" "0011 1001" ∷
    unbuilt "STC" "1100 1110" "0011 0011" ∷
    unbuilt "STXM" "1100 1110" "0010 0001" ∷
    unbuilt "SXF" "1100 1110" "0000 1101" ∷
    unbuilt "TRAP" "1100 1110" "0001 1110" ∷
    unbuilt "NORM" "1100 1110" "1MMM 0010" ∷
    []

-- Not in the base: the long immediates. Places 123 to 129.
abbrev pub long_immediates : List Page
long_immediates =
    unbuilt "LRLK" "1101 0RRR" "0000 0000" ∷
    unbuilt "LALK" "1101 SSSS" "0000 0001" ∷
    unbuilt "ADLK" "1101 SSSS" "0000 0010" ∷
    unbuilt "SBLK" "1101 SSSS" "0000 0011" ∷
    unbuilt "ANDK" "1101 SSSS" "0000 0100" ∷
    unbuilt "ORK" "1101 SSSS" "0000 0101" ∷
    unbuilt "XORK" "1101 SSSS" "0000 0110" ∷
    []

-- Pages whose words a page of the base has too, so that they are never built: "ZAC is LACK 0, NOP and LARP are MAR" (document 01). Places 130 to 132.
abbrev pub shared_pages : List Page
shared_pages =
    unbuilt "ZAC" "1100 1010" "0000 0000" ∷
    unbuilt "NOP" "0101 0101" "0000 0000" ∷
    unbuilt "LARP" "0101 0101" "1000 1RRR" ∷
    []

abbrev pub base_pages : List Page
base_pages = accumulator_pages ++ (multiplier_pages ++ (auxiliary_pages ++ (branch_pages ++ (transfer_pages ++ mode_pages))))

abbrev pub other_pages : List Page
other_pages = other_addressed ++ (other_branches ++ (other_controls ++ (long_immediates ++ shared_pages)))

-- All of them, in the order that stays. A word that two pages have is the base instruction (document 01): its page stands first.
abbrev pub pages : List Page
pages = base_pages ++ other_pages
