-- The bench values of document 01 that are marked M, as a single list: a word in ROM at 0000h, a machine before, a data word at 0060h (page 0, offset 60h), and
-- the numbers that the case names of what one step leaves, the answer first.
use Rattle.std.specs.Prelude.{List, [], ◌∷◌, ℕ, get_or, set, replicate}
use Rattle.machine.specs.declared.Machine.{Machine}
use Rattle.machine.specs.Cells.{with_acc, with_p, with_t, with_pc, with_pm, with_ov, with_ovm, with_c, with_arp, register, with_register}
use Rattle.machine.specs.Reset.{reset_machine}
use Rattle.answers.specs.Numbers.{number_of}
use Rattle.steps.specs.World.{Outcome}
use Rattle.steps.specs.Step.{step_of}
use Rattle.board.specs.Given.{given}

pub record Case : Type 0 where
  pub instruction : ℕ
  pub m : Machine
  pub data_word : ℕ
  pub named : Outcome → List ℕ
  pub expected : List ℕ

abbrev pub data_address : ℕ
data_address = 0x60

-- a memory of 4,096 words that are 0 but for one
abbrev holding : ℕ → ℕ → List ℕ
holding address word = set (replicate 4096 0) address word

-- what the step of a case leaves
abbrev pub left : Case → Outcome
left c = step_of (given (holding 0 c.instruction) []) (record { m = c.m; «data» = holding data_address c.data_word; output = [] })

-- M1 SQRA: word 0Fh, P 12Ch, ACC 1F4h, PM 0: T 0Fh, P E1h, ACC 320h, C 0
abbrev m1 : Case
m1 = record {
  instruction = 0x3960;
  m = with_p (with_acc reset_machine 0x1F4) 0x12C;
  data_word = 0x0F;
  named = λ o. number_of o.answer ∷ o.world.m.t ∷ o.world.m.p ∷ o.world.m.acc ∷ o.world.m.c ∷ [];
  expected = 0 ∷ 0x0F ∷ 0xE1 ∷ 0x320 ∷ 0 ∷ [];
}

-- M2 SQRS: word 8h, P 190h, ACC 1450h, PM 0: P 40h, ACC 12C0h, C 1
abbrev m2 : Case
m2 = record {
  instruction = 0x5A60;
  m = with_c (with_p (with_acc reset_machine 0x1450) 0x190) 0;
  data_word = 0x8;
  named = λ o. number_of o.answer ∷ o.world.m.p ∷ o.world.m.acc ∷ o.world.m.c ∷ [];
  expected = 0 ∷ 0x40 ∷ 0x12C0 ∷ 1 ∷ [];
}

-- M3 P FE079844h, PM 2: SPH stores E079h
abbrev m3_sph : Case
m3_sph = record {
  instruction = 0x7D60;
  m = with_pm (with_p reset_machine 0xFE07_9844) 2;
  data_word = 0x4567;
  named = λ o. number_of o.answer ∷ get_or o.world.«data» data_address 0 ∷ [];
  expected = 0 ∷ 0xE079 ∷ [];
}

-- M3 the same: SPL stores 8440h
abbrev m3_spl : Case
m3_spl = record {
  instruction = 0x7C60;
  m = with_pm (with_p reset_machine 0xFE07_9844) 2;
  data_word = 0x4567;
  named = λ o. number_of o.answer ∷ get_or o.world.«data» data_address 0 ∷ [];
  expected = 0 ∷ 0x8440 ∷ [];
}

-- M4 ACC 7FFFFFFFh, ADDK 1, OVM 1: 7FFFFFFFh, OV 1, C 0
abbrev m4 : Case
m4 = record {
  instruction = 0xCC01;
  m = with_ovm (with_acc reset_machine 0x7FFF_FFFF) 1;
  data_word = 0;
  named = λ o. number_of o.answer ∷ o.world.m.acc ∷ o.world.m.ov ∷ o.world.m.c ∷ [];
  expected = 0 ∷ 0x7FFF_FFFF ∷ 1 ∷ 0 ∷ [];
}

-- M5 the same, OVM 0: 80000000h, OV 1, C 0
abbrev m5 : Case
m5 = record {
  instruction = 0xCC01;
  m = with_acc reset_machine 0x7FFF_FFFF;
  data_word = 0;
  named = λ o. number_of o.answer ∷ o.world.m.acc ∷ o.world.m.ov ∷ o.world.m.c ∷ [];
  expected = 0 ∷ 0x8000_0000 ∷ 1 ∷ 0 ∷ [];
}

-- M6 ACC FFFFFFFFh, ADDK 1: 0, C 1, OV unchanged: 0 before
abbrev m6_clear : Case
m6_clear = record {
  instruction = 0xCC01;
  m = with_c (with_acc reset_machine 0xFFFF_FFFF) 0;
  data_word = 0;
  named = λ o. number_of o.answer ∷ o.world.m.acc ∷ o.world.m.c ∷ o.world.m.ov ∷ [];
  expected = 0 ∷ 0 ∷ 1 ∷ 0 ∷ [];
}

-- M6 and OV 1 before
abbrev m6_set : Case
m6_set = record {
  instruction = 0xCC01;
  m = with_ov (with_acc reset_machine 0xFFFF_FFFF) 1;
  data_word = 0;
  named = λ o. number_of o.answer ∷ o.world.m.acc ∷ o.world.m.c ∷ o.world.m.ov ∷ [];
  expected = 0 ∷ 0 ∷ 1 ∷ 1 ∷ [];
}

-- M7 ACC 0, SUBK 1: FFFFFFFFh, C 0
abbrev m7 : Case
m7 = record {
  instruction = 0xCD01;
  m = reset_machine;
  data_word = 0;
  named = λ o. number_of o.answer ∷ o.world.m.acc ∷ o.world.m.c ∷ [];
  expected = 0 ∷ 0xFFFF_FFFF ∷ 0 ∷ [];
}

-- M8 AR 8, AR0 8, reversed-carry plus: 4, by MAR *BR0+ with ARP 1
abbrev m8 : Case
m8 = record {
  instruction = 0x55F0;
  m = with_arp (with_register (with_register reset_machine 0 8) 1 8) 1;
  data_word = 0;
  named = λ o. number_of o.answer ∷ register o.world.m 1 ∷ [];
  expected = 0 ∷ 4 ∷ [];
}

-- M9 P FFFFFFFFh, PM 3, PAC: ACC FFFFFFFFh
abbrev m9 : Case
m9 = record {
  instruction = 0xCE14;
  m = with_pm (with_p reset_machine 0xFFFF_FFFF) 3;
  data_word = 0;
  named = λ o. number_of o.answer ∷ o.world.m.acc ∷ [];
  expected = 0 ∷ 0xFFFF_FFFF ∷ [];
}

-- M10 PC 1000h, CNF 0: answer 5
abbrev m10 : Case
m10 = record {
  instruction = 0;
  m = with_pc reset_machine 0x1000;
  data_word = 0;
  named = λ o. number_of o.answer ∷ [];
  expected = 5 ∷ [];
}

-- M11 word 00B0h: answer 3
abbrev m11 : Case
m11 = record {
  instruction = 0x00B0;
  m = reset_machine;
  data_word = 0;
  named = λ o. number_of o.answer ∷ [];
  expected = 3 ∷ [];
}

-- M12 -32768 times -32768: P 40000000h, by MPY
abbrev m12 : Case
m12 = record {
  instruction = 0x3860;
  m = with_t reset_machine 0x8000;
  data_word = 0x8000;
  named = λ o. number_of o.answer ∷ o.world.m.p ∷ [];
  expected = 0 ∷ 0x4000_0000 ∷ [];
}

abbrev pub cases : List Case
cases =
    m1
    ∷ m2
    ∷ m3_sph
    ∷ m3_spl
    ∷ m4
    ∷ m5
    ∷ m6_clear
    ∷ m6_set
    ∷ m7
    ∷ m8
    ∷ m9
    ∷ m10
    ∷ m11
    ∷ m12
    ∷ []

-- the numbers that the steps leave, and those that the bench has
abbrev pub found : List Case → List (List ℕ)
found [] = []
found (c ∷ cs) = c.named (left c) ∷ found cs

abbrev pub expected : List Case → List (List ℕ)
expected [] = []
expected (c ∷ cs) = c.expected ∷ expected cs
