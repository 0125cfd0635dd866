-- Decoding an instruction's word gives the instruction back, and the numbers of its fields are within their bits.
use Rattle.std.specs.Prelude.{◌≡◌, refl, Bool, true, false, not, List, [], ◌∷◌, map, ℕ, zero, suc, ◌/◌, ◌%◌, ◌<◌, ◌^◌, T, eqb, length}
use Rattle.std.proofs.Common.{sym, subst, ◌∙◌, ap, le_of_suc-le-suc, not-suc-le-zero, mod-lt, arith, eqb→eq, pow_pos}
use Prim.Native.String.{String}
use lib.Text.{eqt→eq}
use Rattle.instructions.specs.Every.{both_left, both_right, all, by_order}
use Rattle.instructions.specs.Encoding.{Page, page, pick, both, fits, has, means, low_fits, address_mode_of, indirect_of, under, width_of}
use Rattle.instructions.specs.Pages.{pages}
use Rattle.instructions.specs.Decode.{decode_of, is_built}
use Rattle.instructions.specs.Places.{place_in, meaning_in, meaning_at, decode_at_place, page_count}
use Rattle.instructions.specs.Past.{shared_unbuilt, past_pages}
use Rattle.pages_apart.specs.Apart.{own_meaning}
use Rattle.pages_apart.specs.Having.{has_at}
use Rattle.instructions.specs.declared.Instruction.{Instruction}
use Rattle.instructions.specs.declared.Decoded.{Decoded}
use Rattle.instructions.specs.declared.Decoded.TheVariants.{Built, Unbuilt, Nothing}
use Rattle.encodings.specs.Encode.{text, is_indirect, address_bits, indirect_bits, word_of, encode_of, fields_of}
use Rattle.encodings.specs.Spelled.{framed, every_row, all_framed, read, word_back, numbered, letters, own_text}
use Rattle.encodings.specs.Rows.{fields, is_operand, is_branch_page, unread, read_where, read_built, plain_rows, operand_rows, branch_rows, same_rows}
use Rattle.encodings.specs.Cleared.{cleared, low_test, low_test_lem, operand_fields, branch_operand, operands_tested, branches_tested, same_operand, cleared_word, cleared_lt, cleared_low, cleared_upper}
use Rattle.encodings.specs.Within.{Within, FieldsWithin}

-- a word of a page that decodes to what w decodes to there, and that is the word of it
record Kept (r : Page) (w : ℕ) : Type 0 where
  v : ℕ
  below : v < 65536
  owned : T (has r v)
  same : means r v ≡ means r w
  read_as : fields (means r v) ≡ read r v
  spelt : word_of (fields (means r v)) ≡ v

both_join : (a b : Bool) → T a → T b → T (both a b)
both_join true b s t = t
both_join false b s t = s

keep : (r : Page) (v w : ℕ) (i : Instruction) → T (framed r) → means r w ≡ Built i → v < 65536 → T (has r v) → means r v ≡ means r w
    → fields (means r v) ≡ read_built r v → Kept r w
unfolding low_fits
keep r v w i f b h o m e =
    record {
      v = v;
      below = h;
      owned = o;
      same = m;
      read_as = e ∙ ap (λ (d : Decoded). read_where d r v) (m ∙ b);
      spelt = ap word_of (e ∙ ap (λ (d : Decoded). read_where d r v) (m ∙ b)) ∙ word_back r v f h (both_left (fits r.upper 8 (v / 256)) (low_fits r.lower (v % 256)) o)
          (both_left (fits r.lower 8 (v % 256)) _ (both_right (fits r.upper 8 (v / 256)) (low_fits r.lower (v % 256)) o));
    }

-- a page with a low byte as t, that has the word, has it without the bits that are free
cleared_owned : (r : Page) (w : ℕ) → T (low_fits r.lower (cleared (w % 256))) → T (has r w) → T (has r (cleared_word w))
cleared_owned r w l o =
    rw (cleared_upper w, cleared_low w)
    (both_join (fits r.upper 8 (w / 256)) (low_fits r.lower (cleared (w % 256)))
    (both_left (fits r.upper 8 (w / 256)) (low_fits r.lower (w % 256)) o) l)

-- its low byte, at a text that is the page's
low_passes : (r : Page) (w : ℕ) (t : String) (f : ℕ → Bool) → T (all (low_test t f) 8 0) → r.lower ≡ t → T (has r w)
    → T (has r (cleared_word w)) × T (f (cleared (w % 256)))
low_passes r w t f a e o =
    let s : T (both (low_fits t (cleared (w % 256))) (f (cleared (w % 256))))
    = low_test_lem t f (w % 256) a (omega arith)
    (subst (λ (x : String). T (low_fits x (w % 256))) e (both_right (fits r.upper 8 (w / 256)) (low_fits r.lower (w % 256)) o)) in (
      cleared_owned r w
          (subst (λ (x : String). T (low_fits x (cleared (w % 256)))) (sym e) (both_left (low_fits t (cleared (w % 256))) (f (cleared (w % 256))) s)) o,
      both_right (low_fits t (cleared (w % 256))) (f (cleared (w % 256))) s,
    )

-- what the tests say of I and D
is_indirect_is : (v low : ℕ) → v % 256 ≡ low → T (operand_fields low) → is_indirect (address_mode_of (v % 256)) ≡ v / 128 % 2
is_indirect_is v low e t =
    let x : is_indirect (address_mode_of low) ≡ low / 128 % 2
    = eqb→eq (is_indirect (address_mode_of low)) (low / 128 % 2)
    (both_left (eqb (is_indirect (address_mode_of low)) (low / 128 % 2)) (eqb (address_bits (address_mode_of low)) (low % 128)) t) in
    rw e (x ∙ omega arith)

address_bits_is : (v low : ℕ) → v % 256 ≡ low → T (operand_fields low) → address_bits (address_mode_of (v % 256)) ≡ v / 1 % 128
address_bits_is v low e t =
    let x : address_bits (address_mode_of low) ≡ low % 128
    = eqb→eq (address_bits (address_mode_of low)) (low % 128)
    (both_right (eqb (is_indirect (address_mode_of low)) (low / 128 % 2)) (eqb (address_bits (address_mode_of low)) (low % 128)) t) in
    rw e (x ∙ omega arith)

indirect_bits_is : (v low : ℕ) → v % 256 ≡ low → T (branch_operand low) → indirect_bits (indirect_of (v % 256)) ≡ v / 1 % 128
indirect_bits_is v low e t =
    let x : indirect_bits (indirect_of low) ≡ low % 128 = eqb→eq (indirect_bits (indirect_of low)) (low % 128) t in
    rw e (x ∙ omega arith)

-- what the lists of rows say at one row: o and b are whether it takes an operand or is a branch
row_kept : (r : Page) (w : ℕ) (i : Instruction) (o b : Bool) → (T o → r.lower ≡ "IDDD DDDD") → (T b → r.lower ≡ "1DDD DDDD") → T (framed r)
    → means r w ≡ Built i → w < 65536 → T (has r w)
    → pick o unread (pick b unread (fields (means r w))) ≡ pick o unread (pick b unread (read_built r w))
    → pick o (means r (cleared_word w)) (pick b (means r (cleared_word w)) Nothing) ≡ pick o (means r w) (pick b (means r w) Nothing)
    → (is_indirect (address_mode_of (cleared_word w % 256)) ≡ cleared_word w / 128 % 2
    → address_bits (address_mode_of (cleared_word w % 256)) ≡ cleared_word w / 1 % 128
    → pick o (fields (means r (cleared_word w))) unread ≡ pick o (read_built r (cleared_word w)) unread)
    → (indirect_bits (indirect_of (cleared_word w % 256)) ≡ cleared_word w / 1 % 128
    → pick b (fields (means r (cleared_word w))) unread ≡ pick b (read_built r (cleared_word w)) unread)
    → Kept r w
row_kept r w i true b ol bl f m h t plain same operands branch =
    let p : T (has r (cleared_word w)) × T (operand_fields (cleared (w % 256)))
    = low_passes r w "IDDD DDDD" operand_fields operands_tested (ol tt) t in
    keep r (cleared_word w) w i f m (omega (arith, cleared_lt w)) p.0 same
    (operands (is_indirect_is (cleared_word w) (cleared (w % 256)) (cleared_low w) p.1)
    (address_bits_is (cleared_word w) (cleared (w % 256)) (cleared_low w) p.1))
row_kept r w i false true ol bl f m h t plain same operands branch =
    let p : T (has r (cleared_word w)) × T (branch_operand (cleared (w % 256)))
    = low_passes r w "1DDD DDDD" branch_operand branches_tested (bl tt) t in
    keep r (cleared_word w) w i f m (omega (arith, cleared_lt w)) p.0 same
    (branch (indirect_bits_is (cleared_word w) (cleared (w % 256)) (cleared_low w) p.1))
row_kept r w i false false ol bl f m h t plain same operands branch = keep r w w i f m h t refl plain

-- the row at a place
abbrev row_at : List Page → ℕ → Page
row_at [] p = page "" "" "" (λ f low. Nothing)
row_at (r ∷ rs) zero = r
row_at (r ∷ rs) (suc p) = row_at rs p

every_at : (f : Page → Bool) (rs : List Page) (p : ℕ) → p < length rs → T (every_row f rs) → T (f (row_at rs p))
unfolding every_row
every_at f [] p h t = absurd (not-suc-le-zero h)
every_at f (r ∷ rs) zero h t = both_left (f r) (every_row f rs) t
every_at f (r ∷ rs) (suc p) h t = every_at f rs p (le_of_suc-le-suc h) (both_right (f r) (every_row f rs) t)

abbrev pub head_or : {A : Type 0} → A → List A → A
head_or d [] = d
head_or d (x ∷ xs) = x

abbrev pub rest : {A : Type 0} → List A → List A
rest [] = []
rest (x ∷ xs) = xs

same_at : {A : Type 0} (f g : Page → A) (rs : List Page) (p : ℕ) → p < length rs → map f rs ≡ map g rs → f (row_at rs p) ≡ g (row_at rs p)
same_at f g [] p h e = absurd (not-suc-le-zero h)
same_at f g (r ∷ rs) zero h e = ap (head_or (f r)) e
same_at f g (r ∷ rs) (suc p) h e = same_at f g rs p (le_of_suc-le-suc h) (ap rest e)

has_at_lem : (rs : List Page) (p w : ℕ) → p < length rs → has_at rs p w ≡ has (row_at rs p) w
has_at_lem [] p w h = absurd (not-suc-le-zero h)
has_at_lem (r ∷ rs) zero w h = refl
has_at_lem (r ∷ rs) (suc p) w h = has_at_lem rs p w (le_of_suc-le-suc h)

means_at : (rs : List Page) (p w : ℕ) → p < length rs → meaning_in rs p w ≡ means (row_at rs p) w
means_at [] p w h = absurd (not-suc-le-zero h)
means_at (r ∷ rs) zero w h = refl
means_at (r ∷ rs) (suc p) w h = means_at rs p w (le_of_suc-le-suc h)

place_has : (rs : List Page) (w : ℕ) → place_in rs w < length rs → T (has_at rs (place_in rs w) w)
place_has [] w h = absurd (not-suc-le-zero h)
place_has (r ∷ rs) w h = go (has r w) refl h (place_has rs w)
  where
    go : (b : Bool) → has r w ≡ b → pick b 0 (suc (place_in rs w)) < suc (length rs)
        → (place_in rs w < length rs → T (has_at rs (place_in rs w) w)) → T (has_at (r ∷ rs) (pick b 0 (suc (place_in rs w))) w)
    go true e h k = subst (λ (x : Bool). T x) (sym e) tt
    go false e h k = k (le_of_suc-le-suc h)

kept_at : (p w : ℕ) (i : Instruction) → p < 133 → means (row_at pages p) w ≡ Built i → w < 65536 → T (has (row_at pages p) w) → Kept (row_at pages p) w
kept_at p w i l m h t =
    let n : p < length pages = l in
    let r : Page = row_at pages p in
    let v : ℕ = cleared_word w in
    let lv : v % 256 ≡ cleared (w % 256) = cleared_low w in
    row_kept r w i (is_operand r) (is_branch_page r) (eqt→eq r.lower "IDDD DDDD") (eqt→eq r.lower "1DDD DDDD")
    (every_at framed pages p n all_framed) m h t
    (same_at (λ q. pick (is_operand q) unread (pick (is_branch_page q) unread (fields (means q w)))) (λ q. pick (is_operand q) unread (pick (is_branch_page q) unread (read_built q w))) pages p n (plain_rows w))
    (same_at (λ q. pick (is_operand q) (means q v) (pick (is_branch_page q) (means q v) Nothing)) (λ q. pick (is_operand q) (means q w) (pick (is_branch_page q) (means q w) Nothing)) pages p n
    (same_rows w v (cleared_upper w) (ap address_mode_of lv ∙ (same_operand (w % 256)).0) (ap indirect_of lv ∙ (same_operand (w % 256)).1)))
    (λ a b. same_at (λ q. pick (is_operand q) (fields (means q v)) unread) (λ q. pick (is_operand q) (read_built q v) unread) pages p n (operand_rows v a b))
    (λ a. same_at (λ q. pick (is_branch_page q) (fields (means q v)) unread) (λ q. pick (is_branch_page q) (read_built q v) unread) pages p n (branch_rows v a))

not_built : (d : Decoded) (i : Instruction) → d ≡ Built i → T (not (is_built d)) → ⊥
not_built d i e t = subst (λ (x : Decoded). T (not (is_built x))) e t

-- the page of a word that decodes to an instruction, and a word of it that is the instruction's
record Own (w : ℕ) (i : Instruction) : Type 0 where
  place : place_in pages w < 130
  kept : Kept (row_at pages (place_in pages w)) w
  built : means (row_at pages (place_in pages w)) kept.v ≡ Built i

own : (w : ℕ) (i : Instruction) → w < 65536 → decode_of w ≡ Built i → Own w i
unfolding meaning_at
own w i h e =
    by_order p 130 found
    (λ a. by_order p 133 (λ b. absurd (not_built Unbuilt i (sym (shared_unbuilt p w a b) ∙ m) tt))
    (λ b. absurd (not_built Nothing i (sym (past_pages p w b) ∙ m) tt)))
  where
    p : ℕ
    p = place_in pages w

    m : meaning_at (place_in pages w) w ≡ Built i
    m = sym (decode_at_place w) ∙ e

    found : place_in pages w < 130 → Own w i
    found l =
        let r : Page = row_at pages (place_in pages w) in
        let n : place_in pages w < 133 = omega arith in
        let t : T (has r w) = subst (λ (b : Bool). T b) (has_at_lem pages (place_in pages w) w n) (place_has pages w n) in
        let b : means r w ≡ Built i = sym (means_at pages (place_in pages w) w n) ∙ m in
        let k : Kept r w = kept_at (place_in pages w) w i n b h t in
        record { place = l; kept = k; built = k.same ∙ b }

-- Decoding the word of an instruction that some word decodes to gives that instruction.
pub decode_encode : (w : ℕ) (i : Instruction) → w < 65536 → decode_of w ≡ Built i → decode_of (encode_of i) ≡ Built i
unfolding encode_of fields
decode_encode w i h e =
    let o = own w i h e in
    let k = o.kept in
    let n : place_in pages w < 133 = omega (arith, o.place) in
    let s : encode_of i ≡ k.v = ap (λ (d : Decoded). word_of (fields d)) (sym o.built) ∙ k.spelt in
    ap decode_of s
    ∙ own_meaning (place_in pages w) k.v k.below o.place
    (subst (λ (b : Bool). T b) (sym (has_at_lem pages (place_in pages w) k.v n)) k.owned)
    ∙ means_at pages (place_in pages w) k.v n
    ∙ o.built

-- ---- the widths of fields

under_lt : (t : String) (n w : ℕ) (c : String) → under t n w c < 2 ^ width_of t c n
under_lt t n w c = mod-lt _ (pow_pos (width_of t c n))

numbered_within : (t : String) (w : ℕ) (cs : List String) → Within t (numbered (under t 16 w) cs)
numbered_within t w [] = tt
numbered_within t w (c ∷ cs) = (under_lt t 16 w c, numbered_within t w cs)

-- The fields of an instruction that some word decodes to are within the bits that its page prints for them.
pub fields_within : (w : ℕ) (i : Instruction) → w < 65536 → decode_of w ≡ Built i → FieldsWithin (fields_of i)
unfolding fields
fields_within w i h e =
    let o = own w i h e in
    let r : Page = row_at pages (place_in pages w) in
    let f : T (framed r) = every_at framed pages (place_in pages w) (omega (arith, o.place, page_count)) all_framed in
    let is : fields_of i ≡ read r o.kept.v = ap fields (sym o.built) ∙ o.kept.read_as in
    subst FieldsWithin (sym is) (subst (λ (t : String). Within t (read r o.kept.v).1) (sym (own_text r f)) (numbered_within (text r) o.kept.v (letters (text r) 16)))
