-- The printed lines of a target stand, each after those before it.
use Rattle.std.proofs.Common.{◌≡◌, ℕ, ◌<◌, List, [], ◌∷◌, ◌++◌, length, Some, Ok, Bool, true, false, refl, ap, sym, ◌∙◌, arith, map, fold, cond, length-append}
use Rattle.std.specs.Prelude.{◌==◌, ◌||◌, not, nat_lt, nat_le, codes}
use Rattle.std.specs.List.{list_all, list_any}
use Rattle.std.specs.Fmt.{decimal, digits}
use Rattle.std.proofs.Math.Path.{subst}
use Rattle.std.proofs.lemmas.List.{map-append}
use Rattle.std.proofs.lemmas.Bool.{ltb-true, lt-ltb, leb-true, eqb-true, not-true}
use Rattle.target_base.specs.declared.types.Reg.{Reg}
use Rattle.target_base.specs.declared.types.UnitDesc.{UnitDesc}
use Rattle.target_base.specs.declared.types.RegDesc.{RegDesc}
use Rattle.target_base.specs.declared.types.IndexDesc.{IndexDesc}
use Rattle.target_base.specs.declared.types.ClassDesc.{ClassDesc}
use Rattle.target_base.specs.declared.types.MaskDesc.{MaskDesc}
use Rattle.target_base.specs.declared.types.OpcodeDesc.{OpcodeDesc}
use Rattle.target_base.specs.Names.{is_name, is_op_name, is_flag_word, are_distinct_names}
use Rattle.target_base.specs.Rules.{is_unit_desc, is_reg_desc, is_index_desc, is_class_desc, is_mask_desc, is_opcode_desc, most_lanes}
use Rattle.target_base.specs.Roles.{roles_fit}
use Rattle.target_base.specs.Storage.{same_numbers}
use Rattle.target_base.proofs.Tests.{first_of_both, second_of_both}
use Rattle.target_desc.specs.declared.raw.Header.{Header}
use Rattle.target_desc.specs.declared.raw.TextForm.{TextForm}
use Rattle.target_desc.specs.declared.raw.RawLine.{RawLine}
use Rattle.target_desc.specs.declared.raw.RawLine.TheVariants as raw_lines
use Rattle.target_desc.specs.declared.draft.Draft.{Draft}
use Rattle.target_desc.specs.declared.draft.Options.{Options}
use Rattle.target_desc.specs.declared.draft.Line.{Line}
use Rattle.target_desc.specs.declared.draft.Line.TheVariants as lines
use Rattle.target_desc.specs.Text.{is_comment}
use Rattle.word_set.specs.Words.{is_fresh}
use Rattle.target_desc.specs.Forms.{text_forms_of, raw_line, formed, name_list, number_list}
use Rattle.target_desc.specs.Drafts.{no_options, empty_draft, names_of, the_five}
use Rattle.target_desc.specs.Resolving.{resolved, is_new}
use Rattle.target_desc.specs.Standing.{stands, stands_in}
use Rattle.target_desc.specs.Adding.{with_form, with_flags, added}
use Rattle.target_desc.specs.Reading.{line_after, worded, laid_out}
use Rattle.target_desc.specs.Printed.{spaced, listed, header_line, unit_line, reg_line, index_line, class_line, mask_line, opcode_line, reserved_lines, unit_words, reg_words, role_word, effect_word, name_at}
use Rattle.target_desc.proofs.Grown.{both, all_kept, apart_before}
use Rattle.target_desc.proofs.Spaced.{is_word, lacks, words_back, line_lacks}
use Rattle.target_desc.proofs.Digits.{name_is_word, names_are_words, flags_are_words, decimal_is_word, decimal_is_number, decimal_back, decimals_are_words, decimals_are_numbers, decimals_back}
use Rattle.target_desc.proofs.NamedBack.{units_back, regs_back, unit_words_are_names, reg_words_are_names}
use Rattle.target_desc.proofs.RolesBack.{raw_of, effect_back, small_ties, roles_may, words_read, roles_found, role_words}

-- a line of words is read as its words
line_worded : (d : Draft) (w : List ℕ) (ws : List (List ℕ)) → is_word w ≡ true → list_all is_word ws ≡ true → is_comment (spaced (w ∷ ws)) ≡ false → line_after d (spaced (w ∷ ws)) ≡ worded d (w ∷ ws)
unfolding line_after
line_worded d w ws h g c = rw (c, words_back w ws h g) refl

raw_stands : (d : Draft) (raw : RawLine) (l : Line) → resolved (names_of d) raw ≡ Some l → is_new (names_of d) l ≡ true → stands d l ≡ true → laid_out d (Some raw) ≡ Ok (added d l)
raw_stands d raw l e n s = rw (e, n, s) refl

-- a line whose words are read as this line, which is new and keeps the rules
line_stands : (d : Draft) (w : List ℕ) (ws : List (List ℕ)) (raw : RawLine) (l : Line) → is_word w ≡ true → list_all is_word ws ≡ true → is_comment (spaced (w ∷ ws)) ≡ false
    → raw_line w ws ≡ Some raw → resolved (names_of d) raw ≡ Some l → is_new (names_of d) l ≡ true → stands d l ≡ true → line_after d (spaced (w ∷ ws)) ≡ Ok (added d l)
line_stands d w ws raw l h g c e r n s = line_worded d w ws h g c ∙ ap (laid_out d) e ∙ raw_stands d raw l r n s

-- the target so far
abbrev pub so_far : Header → Options → List UnitDesc → List RegDesc → List Reg → List IndexDesc → List ClassDesc → List MaskDesc → List OpcodeDesc → Draft
so_far h os units regs reserved indexes classes masks opcodes = record {
  header = Some h;
  units = units;
  regs = regs;
  reserved = reserved;
  indexes = indexes;
  classes = classes;
  masks = masks;
  opcodes = the_five ++ opcodes;
  options = os;
}

version_stands : (h : Header) (a b : Bool) → (h.version == 1) ≡ a → (h.version == 2) ≡ b → is_name h.name ≡ true → (a || b) ≡ true → line_after empty_draft (header_line h.name h.version) ≡ Ok (so_far h no_options [] [] [] [] [] [] [])
unfolding empty_draft digits formed resolved is_new added
version_stands h true b e f n s =
    let one : h.version ≡ 1 = eqb-true h.version 1 e in
    let w = name_is_word h.name n in
    let P : ℕ → Type 0 = λ v. line_after empty_draft (header_line h.name v) ≡ Ok (so_far (record { name = h.name; version = v }) no_options [] [] [] [] [] [] []) in
    subst P (sym one) (line_stands empty_draft (codes "target") (h.name ∷ decimal 1 ∷ []) (raw_lines.Target (record { name = h.name; version = 1 })) (lines.Target (record { name = h.name; version = 1 })) refl (both _ _ w refl) refl (rw n refl) refl refl (rw n refl))
version_stands h false true e f n s =
    let two : h.version ≡ 2 = eqb-true h.version 2 f in
    let w = name_is_word h.name n in
    let P : ℕ → Type 0 = λ v. line_after empty_draft (header_line h.name v) ≡ Ok (so_far (record { name = h.name; version = v }) no_options [] [] [] [] [] [] []) in
    subst P (sym two) (line_stands empty_draft (codes "target") (h.name ∷ decimal 2 ∷ []) (raw_lines.Target (record { name = h.name; version = 2 })) (lines.Target (record { name = h.name; version = 2 })) refl (both _ _ w refl) refl (rw n refl) refl refl (rw n refl))
version_stands h false false e f n s = absurd (cc)

pub header_stands : (h : Header) → is_name h.name ≡ true → (h.version == 1 || h.version == 2) ≡ true → line_after empty_draft (header_line h.name h.version) ≡ Ok (so_far h no_options [] [] [] [] [] [] [])
header_stands h n s = version_stands h (h.version == 1) (h.version == 2) refl refl n s

-- the lines of what is opted in
module _ (h : Header) (os : Options) where
  pub forms_stand : (w : List ℕ) (ws : List (List ℕ)) (fs : List TextForm) → list_all is_word (w ∷ ws) ≡ true → text_forms_of (w ∷ ws) ≡ Some fs
      → line_after (so_far h os [] [] [] [] [] [] []) (spaced (codes "form" ∷ w ∷ ws)) ≡ Ok (so_far h (fold with_form os fs) [] [] [] [] [] [] [])
  unfolding formed resolved is_new stands_in added
  forms_stand w ws fs g e = line_stands (so_far h os [] [] [] [] [] [] []) (codes "form") (w ∷ ws) (raw_lines.Forms fs) (lines.Forms fs) refl g refl (rw e refl) refl refl refl

  pub flags_stand : (w : List ℕ) (ws : List (List ℕ)) → list_all is_flag_word (w ∷ ws) ≡ true
      → line_after (so_far h os [] [] [] [] [] [] []) (spaced (codes "flags" ∷ w ∷ ws)) ≡ Ok (so_far h (with_flags os (w ∷ ws)) [] [] [] [] [] [] [])
  unfolding formed resolved is_new stands_in added
  flags_stand w ws g = line_stands (so_far h os [] [] [] [] [] [] []) (codes "flags") (w ∷ ws) (raw_lines.Flags (w ∷ ws)) (lines.Flags (w ∷ ws)) refl (flags_are_words (w ∷ ws) g) refl (rw g refl) refl refl g

-- an element of a list whose elements keep a rule and have distinct names: there is room for it, it keeps the rule and has a new name
module _ {X : Type 0} (name : X → List ℕ) (rule : X → Bool) (done : List X) (x : X) (rest : List X) where
  pub room_left : (most : ℕ) → nat_le (length (done ++ x ∷ rest)) most ≡ true → nat_lt (length done) most ≡ true
  room_left most h = let few = leb-true _ most h in lt-ltb (length done) most (omega (arith, length-append done (x ∷ rest)))

  pub rule_kept : list_all rule (done ++ x ∷ rest) ≡ true → rule x ≡ true
  rule_kept h = behind done h
    where
      behind : (ys : List X) → list_all rule (ys ++ x ∷ rest) ≡ true → rule x ≡ true
      behind [] e = first_of_both _ _ e
      behind (y ∷ ys) e = behind ys (second_of_both _ _ e)

  pub name_is_new : are_distinct_names (map name (done ++ x ∷ rest)) ≡ true → is_fresh (map name done) (name x) ≡ true
  name_is_new h = ap not (apart_before (map name done) (name x) (map name rest) (ap are_distinct_names (sym (map-append name done (x ∷ rest))) ∙ h))

-- one or more names that are listed
pub names_listed : {X : Type 0} (f : X → List ℕ) (xs : List X) → nat_lt 0 (length xs) ≡ true → list_all is_name (map f xs) ≡ true → name_list (map f xs) ≡ Some (map f xs)
names_listed f [] h e = absurd (cc)
names_listed f (x ∷ xs) h e = rw e refl

lanes_listed : (ns : List ℕ) → nat_lt 0 (length ns) ≡ true → list_all (λ n. nat_lt n 255) ns ≡ true → number_list (map decimal ns) ≡ Some ns
lanes_listed [] h e = absurd (cc)
lanes_listed (n ∷ ns) h e = let numbers = decimals_are_numbers (n ∷ ns) e in let back = decimals_back (n ∷ ns) e in rw numbers (ap Some back)

module _ (h : Header) (os : Options) (units : List UnitDesc) where
  pub unit_stands : (done : List UnitDesc) (u : UnitDesc) → nat_lt (length done) 512 ≡ true → is_unit_desc u ≡ true → is_fresh (map (λ x. x.name) done) u.name ≡ true
      → line_after (so_far h os done [] [] [] [] [] []) (unit_line u) ≡ Ok (so_far h os (done ++ u ∷ []) [] [] [] [] [] [])
  unfolding formed resolved is_new stands_in added
  unit_stands done u room good new =
      let n : is_name u.name ≡ true = first_of_both _ _ (first_of_both _ _ good) in
      let few : u.width < 255 = omega (arith, leb-true u.width 128 (second_of_both _ _ good)) in
      let number = decimal_is_number u.width few in
      let back = decimal_back u.width few in
      line_stands (so_far h os done [] [] [] [] [] []) (codes "unit") (u.name ∷ decimal u.width ∷ []) (raw_lines.Unit u) (lines.Unit u) refl (both _ _ (name_is_word u.name n) (both _ _ (decimal_is_word u.width few) refl)) refl
      (rw (n, number, back) refl) refl new (both _ _ room good)

  pub reg_stands : (done : List RegDesc) (r : RegDesc) → list_all is_name (map (λ x. x.name) units) ≡ true → are_distinct_names (map (λ x. x.name) units) ≡ true
      → nat_lt (length done) 512 ≡ true → is_reg_desc h.version units r ≡ true → is_fresh (map (λ x. x.name) done) r.name ≡ true
      → line_after (so_far h os units done [] [] [] [] []) (reg_line units r) ≡ Ok (so_far h os units (done ++ r ∷ []) [] [] [] [] [])
  unfolding formed resolved is_new stands_in added
  reg_stands done r names distinct room good new =
      let n = first_of_both _ _ (first_of_both _ _ (first_of_both _ _ (first_of_both _ _ (first_of_both _ _ good)))) in
      let some = second_of_both _ _ (first_of_both _ _ (first_of_both _ _ (first_of_both _ _ (first_of_both _ _ good)))) in
      let known = second_of_both _ _ (first_of_both _ _ (first_of_both _ _ good)) in
      let named = unit_words_are_names units r.units names known in
      let listed = names_listed (λ u. name_at (λ d. d.name) units u.0) r.units some named in
      let back = units_back units r.units distinct known in
      line_stands (so_far h os units done [] [] [] [] []) (codes "reg") (r.name ∷ unit_words units r.units) (raw_lines.Reg r.name (unit_words units r.units)) (lines.Reg r) refl (both _ _ (name_is_word r.name n) (names_are_words (unit_words units r.units) named)) refl
      (rw (n, listed) refl) (rw back refl) new (both _ _ room good)

module _ (h : Header) (os : Options) (units : List UnitDesc) (regs : List RegDesc) (names : list_all is_name (map (λ r. r.name) regs) ≡ true) (distinct : are_distinct_names (map (λ r. r.name) regs) ≡ true) where
  pub reserved_stands : (rs : List Reg) → list_all (λ r. nat_lt r.0 (length regs)) rs ≡ true → nat_lt 0 (length rs) ≡ true
      → line_after (so_far h os units regs [] [] [] [] []) (spaced (codes "reserved" ∷ reg_words regs rs)) ≡ Ok (so_far h os units regs rs [] [] [] [])
  unfolding formed resolved is_new stands_in added
  reserved_stands rs known some =
      let named = reg_words_are_names regs rs names known in
      let listed = names_listed (λ r. name_at (λ d. d.name) regs r.0) rs some named in
      let back = regs_back regs rs distinct known in
      line_stands (so_far h os units regs [] [] [] [] []) (codes "reserved") (reg_words regs rs) (raw_lines.Reserved (reg_words regs rs)) (lines.Reserved rs) refl (names_are_words (reg_words regs rs) named) refl
      (rw listed refl) (rw back refl) refl known

  module _ (reserved : List Reg) (indexes : List IndexDesc) where
    pub class_stands : (done : List ClassDesc) (c : ClassDesc) → nat_lt (length done) 512 ≡ true → is_class_desc units regs c ≡ true → is_fresh (map (λ x. x.name) done) c.name ≡ true
        → line_after (so_far h os units regs reserved indexes done [] []) (class_line regs c) ≡ Ok (so_far h os units regs reserved indexes (done ++ c ∷ []) [] [])
    unfolding formed resolved is_new stands_in added
    class_stands done c room good new =
        let n : is_name c.name ≡ true = first_of_both _ _ (first_of_both _ _ (first_of_both _ _ (first_of_both _ _ (first_of_both _ _ good)))) in
        let some = second_of_both _ _ (first_of_both _ _ (first_of_both _ _ (first_of_both _ _ (first_of_both _ _ good)))) in
        let known = second_of_both _ _ (first_of_both _ _ (first_of_both _ _ good)) in
        let named = reg_words_are_names regs c.regs names known in
        let listed = names_listed (λ r. name_at (λ d. d.name) regs r.0) c.regs some named in
        let back = regs_back regs c.regs distinct known in
        line_stands (so_far h os units regs reserved indexes done [] []) (codes "class") (c.name ∷ reg_words regs c.regs) (raw_lines.Class c.name (reg_words regs c.regs)) (lines.Class c) refl
        (both _ _ (name_is_word c.name n) (names_are_words (reg_words regs c.regs) named)) refl
        (rw (n, listed) refl) (rw back refl) new (both _ _ room good)

    pub mask_stands : (classes : List ClassDesc) (done : List MaskDesc) (m : MaskDesc) → nat_lt (length done) 512 ≡ true → is_mask_desc (length regs) m ≡ true → is_fresh (map (λ x. x.name) done) m.name ≡ true
        → line_after (so_far h os units regs reserved indexes classes done []) (mask_line regs m) ≡ Ok (so_far h os units regs reserved indexes classes (done ++ m ∷ []) [])
    unfolding formed resolved is_new stands_in added
    mask_stands classes done m room good new =
        let n : is_name m.name ≡ true = first_of_both _ _ (first_of_both _ _ good) in
        let some = second_of_both _ _ (first_of_both _ _ good) in
        let known = second_of_both _ _ good in
        let named = reg_words_are_names regs m.regs names known in
        let listed = names_listed (λ r. name_at (λ d. d.name) regs r.0) m.regs some named in
        let back = regs_back regs m.regs distinct known in
        line_stands (so_far h os units regs reserved indexes classes done []) (codes "mask") (m.name ∷ reg_words regs m.regs) (raw_lines.Mask m.name (reg_words regs m.regs)) (lines.Mask m) refl
        (both _ _ (name_is_word m.name n) (names_are_words (reg_words regs m.regs) named)) refl
        (rw (n, listed) refl) (rw back refl) new (both _ _ room good)

-- lane numbers are small
lanes_small : (version : ℕ) (ns : List ℕ) → list_all (λ k. nat_lt k (most_lanes version)) ns ≡ true → list_all (λ n. nat_lt n 255) ns ≡ true
lanes_small version ns h = all_kept (λ k. nat_lt k (most_lanes version)) (λ n. nat_lt n 255) ns (λ n. by (version == 2) n) h
  where
    by : (t : Bool) (n : ℕ) → nat_lt n (cond t 32 16) ≡ true → nat_lt n 255 ≡ true
    by true n e = let x = ltb-true n 32 e in lt-ltb n 255 (omega (arith, x))
    by false n e = let x = ltb-true n 16 e in lt-ltb n 255 (omega (arith, x))

pub index_stands : (h : Header) (os : Options) (units : List UnitDesc) (regs : List RegDesc) (reserved : List Reg) (done : List IndexDesc) (x : IndexDesc) → nat_lt (length done) 512 ≡ true → is_index_desc h.version x ≡ true → is_fresh (map (λ i. i.name) done) x.name ≡ true
    → line_after (so_far h os units regs reserved done [] [] []) (index_line x) ≡ Ok (so_far h os units regs reserved (done ++ x ∷ []) [] [] [])
unfolding formed resolved is_new stands_in added
index_stands h os units regs reserved done x room good new =
    let n : is_name x.name ≡ true = first_of_both _ _ (first_of_both _ _ (first_of_both _ _ good)) in
    let some = second_of_both _ _ (first_of_both _ _ (first_of_both _ _ good)) in
    let small = lanes_small h.version x.lanes (second_of_both _ _ (first_of_both _ _ good)) in
    let listed = lanes_listed x.lanes some small in
    line_stands (so_far h os units regs reserved done [] [] []) (codes "index") (x.name ∷ map decimal x.lanes) (raw_lines.Index x) (lines.Index x) refl
    (both _ _ (name_is_word x.name n) (decimals_are_words x.lanes small)) refl
    (rw (n, listed) refl) refl new (both _ _ room good)

module _ (h : Header) (os : Options) (units : List UnitDesc) (regs : List RegDesc) (reserved : List Reg) (indexes : List IndexDesc) (classes : List ClassDesc) (masks : List MaskDesc)
    (nc : list_all is_name (map (λ c. c.name) classes) ≡ true) (nr : list_all is_name (map (λ r. r.name) regs) ≡ true)
    (dc : are_distinct_names (map (λ c. c.name) classes) ≡ true) (dr : are_distinct_names (map (λ r. r.name) regs) ≡ true) where
  pub opcode_stands : (done : List OpcodeDesc) (o : OpcodeDesc) → nat_lt (length (the_five ++ done)) 1024 ≡ true → is_opcode_desc units regs classes o ≡ true → is_fresh (map (λ x. x.name) (the_five ++ done)) o.name ≡ true
      → line_after (so_far h os units regs reserved indexes classes masks done) (opcode_line classes regs o) ≡ Ok (so_far h os units regs reserved indexes classes masks (done ++ o ∷ []))
  unfolding formed resolved is_new stands_in added
  opcode_stands done o room good new =
      let d = so_far h os units regs reserved indexes classes masks done in
      let n : is_op_name o.name ≡ true = first_of_both _ _ (first_of_both _ _ (first_of_both _ _ good)) in
      let known = second_of_both _ _ (first_of_both _ _ (first_of_both _ _ good)) in
      let scale = second_of_both _ _ (first_of_both _ _ good) in
      let fit : roles_fit units regs classes o.effect o.roles ≡ true = second_of_both _ _ good in
      let effect = effect_back units regs classes o.effect o.roles fit scale in
      let ties = small_ties units regs classes o.effect o.roles fit in
      let may = roles_may classes regs units o.effect o.roles fit in
      let read = words_read (names_of d) classes regs refl refl nc nr dc dr o.roles known ties in
      let found = roles_found (names_of d) classes regs refl refl nc nr dc dr o.roles known in
      let say = role_words (names_of d) classes regs refl refl nc nr dc dr o.roles known ties in
      line_stands d (codes "op") (o.name ∷ effect_word o.effect ∷ map (role_word classes regs) o.roles) (raw_lines.Opcode o.name o.effect (map (raw_of classes regs) o.roles)) (lines.Opcode o) refl
      (both _ _ (name_is_word o.name (first_of_both _ _ n)) (both _ _ effect.1 say)) refl
      (rw (n, effect.0, read, may) refl) (rw found refl) new (both _ _ room good)

-- the lines of each sort have no newline
version_small : (v : ℕ) (a b : Bool) → (v == 1) ≡ a → (v == 2) ≡ b → (a || b) ≡ true → v < 255
version_small v true b e f h = omega (arith, eqb-true v 1 e)
version_small v false true e f h = omega (arith, eqb-true v 2 f)
version_small v false false e f h = absurd (cc)

pub header_lacks : (name : List ℕ) (version : ℕ) → is_name name ≡ true → (version == 1 || version == 2) ≡ true → lacks 10 (header_line name version) ≡ true
header_lacks name version n s = line_lacks (codes "target") (name ∷ decimal version ∷ []) refl (both _ _ (name_is_word name n) (both _ _ (decimal_is_word version (version_small version (version == 1) (version == 2) refl refl s)) refl))

pub unit_lacks : (u : UnitDesc) → is_unit_desc u ≡ true → lacks 10 (unit_line u) ≡ true
unit_lacks u good =
    let n : is_name u.name ≡ true = first_of_both _ _ (first_of_both _ _ good) in
    let few : u.width < 255 = omega (arith, leb-true u.width 128 (second_of_both _ _ good)) in
    line_lacks (codes "unit") (u.name ∷ decimal u.width ∷ []) refl (both _ _ (name_is_word u.name n) (both _ _ (decimal_is_word u.width few) refl))

pub reg_lacks : (version : ℕ) (units : List UnitDesc) (r : RegDesc) → list_all is_name (map (λ x. x.name) units) ≡ true → is_reg_desc version units r ≡ true → lacks 10 (reg_line units r) ≡ true
reg_lacks version units r names good =
    let n : is_name r.name ≡ true = first_of_both _ _ (first_of_both _ _ (first_of_both _ _ (first_of_both _ _ (first_of_both _ _ good)))) in
    let known = second_of_both _ _ (first_of_both _ _ (first_of_both _ _ good)) in
    line_lacks (codes "reg") (r.name ∷ unit_words units r.units) refl (both _ _ (name_is_word r.name n) (names_are_words (unit_words units r.units) (unit_words_are_names units r.units names known)))

pub index_lacks : (version : ℕ) (x : IndexDesc) → is_index_desc version x ≡ true → lacks 10 (index_line x) ≡ true
index_lacks version x good =
    let n : is_name x.name ≡ true = first_of_both _ _ (first_of_both _ _ (first_of_both _ _ good)) in
    let small = lanes_small version x.lanes (second_of_both _ _ (first_of_both _ _ good)) in
    line_lacks (codes "index") (x.name ∷ map decimal x.lanes) refl (both _ _ (name_is_word x.name n) (decimals_are_words x.lanes small))

pub listed_lacks : (word : List ℕ) (ws : List (List ℕ)) → is_word word ≡ true → list_all is_word ws ≡ true → list_all (lacks 10) (listed word ws) ≡ true
listed_lacks word [] h g = refl
listed_lacks word (w ∷ ws) h g = both _ _ (line_lacks word (w ∷ ws) h g) refl

module _ (regs : List RegDesc) (names : list_all is_name (map (λ r. r.name) regs) ≡ true) where
  pub reserved_lacks : (rs : List Reg) → list_all (λ r. nat_lt r.0 (length regs)) rs ≡ true → list_all (lacks 10) (reserved_lines regs rs) ≡ true
  reserved_lacks rs known = listed_lacks (codes "reserved") (reg_words regs rs) refl (names_are_words (reg_words regs rs) (reg_words_are_names regs rs names known))

  pub class_lacks : (units : List UnitDesc) (c : ClassDesc) → is_class_desc units regs c ≡ true → lacks 10 (class_line regs c) ≡ true
  class_lacks units c good =
      let n : is_name c.name ≡ true = first_of_both _ _ (first_of_both _ _ (first_of_both _ _ (first_of_both _ _ (first_of_both _ _ good)))) in
      let known = second_of_both _ _ (first_of_both _ _ (first_of_both _ _ good)) in
      line_lacks (codes "class") (c.name ∷ reg_words regs c.regs) refl (both _ _ (name_is_word c.name n) (names_are_words (reg_words regs c.regs) (reg_words_are_names regs c.regs names known)))

  pub mask_lacks : (m : MaskDesc) → is_mask_desc (length regs) m ≡ true → lacks 10 (mask_line regs m) ≡ true
  mask_lacks m good =
      let n : is_name m.name ≡ true = first_of_both _ _ (first_of_both _ _ good) in
      let known = second_of_both _ _ good in
      line_lacks (codes "mask") (m.name ∷ reg_words regs m.regs) refl (both _ _ (name_is_word m.name n) (names_are_words (reg_words regs m.regs) (reg_words_are_names regs m.regs names known)))

pub opcode_lacks : (units : List UnitDesc) (regs : List RegDesc) (classes : List ClassDesc)
    → list_all is_name (map (λ c. c.name) classes) ≡ true → list_all is_name (map (λ r. r.name) regs) ≡ true
    → are_distinct_names (map (λ c. c.name) classes) ≡ true → are_distinct_names (map (λ r. r.name) regs) ≡ true
    → (o : OpcodeDesc) → is_opcode_desc units regs classes o ≡ true → lacks 10 (opcode_line classes regs o) ≡ true
opcode_lacks units regs classes nc nr dc dr o good =
    let n : is_op_name o.name ≡ true = first_of_both _ _ (first_of_both _ _ (first_of_both _ _ good)) in
    let known = second_of_both _ _ (first_of_both _ _ (first_of_both _ _ good)) in
    let scale = second_of_both _ _ (first_of_both _ _ good) in
    let fit : roles_fit units regs classes o.effect o.roles ≡ true = second_of_both _ _ good in
    let effect = effect_back units regs classes o.effect o.roles fit scale in
    let ties = small_ties units regs classes o.effect o.roles fit in
    let say = role_words (record { units = []; regs = map (λ r. r.name) regs; indexes = []; classes = map (λ c. c.name) classes; masks = []; opcodes = [] }) classes regs refl refl nc nr dc dr o.roles known ties in
    line_lacks (codes "op") (o.name ∷ effect_word o.effect ∷ map (role_word classes regs) o.roles) refl (both _ _ (name_is_word o.name (first_of_both _ _ n)) (both _ _ effect.1 say))
