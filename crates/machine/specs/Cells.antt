-- A machine by its cells: a setter for each, and a reader and a setter for one auxiliary register.
use Rattle.std.specs.Prelude.{List, ℕ, get_or, set}
use Prim.Native.String.{String}
use lib.Text.{eqt}
use Rattle.hardware_stack.specs.declared.Stack.{Stack}
use Rattle.machine.specs.declared.Machine.{Machine}
use Rattle.machine.specs.Table.{chosen}

-- A machine by its cells: for each name what the cell holds, a number or, for AR and the stack, words. With the name comes the field, for a cell that
-- is to keep what another machine holds in it.
abbrev pub built : (String → (Machine → ℕ) → ℕ) → (String → (Machine → List ℕ) → List ℕ) → Machine
built number words =
    record {
      stack = record { words = words "stack" (λ m. m.stack.words) };
      acc = number "ACC" (λ m. m.acc);
      p = number "P" (λ m. m.p);
      t = number "T" (λ m. m.t);
      pc = number "PC" (λ m. m.pc);
      pfc = number "PFC" (λ m. m.pfc);
      ar = words "AR" (λ m. m.ar);
      arp = number "ARP" (λ m. m.arp);
      arb = number "ARB" (λ m. m.arb);
      dp = number "DP" (λ m. m.dp);
      pm = number "PM" (λ m. m.pm);
      ov = number "OV" (λ m. m.ov);
      ovm = number "OVM" (λ m. m.ovm);
      sxm = number "SXM" (λ m. m.sxm);
      c = number "C" (λ m. m.c);
      cnf = number "CNF" (λ m. m.cnf);
      mid = number "MID" (λ m. m.mid);
      rptc = number "RPTC" (λ m. m.rptc);
      input_cursor = number "input cursor" (λ m. m.input_cursor);
      output_cursor = number "output cursor" (λ m. m.output_cursor);
    }

-- x in the single cell of this name; every other cell keeps what it held
abbrev pub put : String → Machine → ℕ → Machine
put name m x = built (λ n field. chosen (eqt n name) x (field m)) (λ n field. field m)

-- the same of the words of AR or of the stack
abbrev pub put_words : String → Machine → List ℕ → Machine
put_words name m words = built (λ n field. field m) (λ n field. chosen (eqt n name) words (field m))

abbrev pub with_stack : Machine → Stack → Machine
with_stack m s = put_words "stack" m s.words

abbrev pub with_acc : Machine → ℕ → Machine
with_acc m x = put "ACC" m x

abbrev pub with_p : Machine → ℕ → Machine
with_p m x = put "P" m x

abbrev pub with_t : Machine → ℕ → Machine
with_t m x = put "T" m x

abbrev pub with_pc : Machine → ℕ → Machine
with_pc m x = put "PC" m x

abbrev pub with_pfc : Machine → ℕ → Machine
with_pfc m x = put "PFC" m x

abbrev pub with_ar : Machine → List ℕ → Machine
with_ar m registers = put_words "AR" m registers

abbrev pub with_arp : Machine → ℕ → Machine
with_arp m x = put "ARP" m x

abbrev pub with_arb : Machine → ℕ → Machine
with_arb m x = put "ARB" m x

abbrev pub with_dp : Machine → ℕ → Machine
with_dp m x = put "DP" m x

abbrev pub with_pm : Machine → ℕ → Machine
with_pm m x = put "PM" m x

abbrev pub with_ov : Machine → ℕ → Machine
with_ov m x = put "OV" m x

abbrev pub with_ovm : Machine → ℕ → Machine
with_ovm m x = put "OVM" m x

abbrev pub with_sxm : Machine → ℕ → Machine
with_sxm m x = put "SXM" m x

abbrev pub with_c : Machine → ℕ → Machine
with_c m x = put "C" m x

abbrev pub with_cnf : Machine → ℕ → Machine
with_cnf m x = put "CNF" m x

abbrev pub with_mid : Machine → ℕ → Machine
with_mid m x = put "MID" m x

abbrev pub with_rptc : Machine → ℕ → Machine
with_rptc m x = put "RPTC" m x

abbrev pub with_input_cursor : Machine → ℕ → Machine
with_input_cursor m x = put "input cursor" m x

abbrev pub with_output_cursor : Machine → ℕ → Machine
with_output_cursor m x = put "output cursor" m x

-- auxiliary register i
abbrev pub register : Machine → ℕ → ℕ
register m i = get_or m.ar i 0

abbrev pub with_register : Machine → ℕ → ℕ → Machine
with_register m i x = with_ar m (set m.ar i x)
