-- The printed text of a target spells it.
use Rattle.std.proofs.Common.{◌≡◌, ℕ, List, [], ◌∷◌, ◌++◌, length, append_assoc, Some, Ok, Bool, true, refl, ap, sym, ◌∙◌, arith, map, drop, fold}
use Rattle.std.specs.Prelude.{◌==◌, ◌&&◌, ◌||◌, nat_lt, nat_le, codes}
use Rattle.std.specs.List.{list_all}
use Rattle.std.proofs.Math.Path.{subst}
use Rattle.std.proofs.lemmas.Bool.{lt-ltb, eqb-true}
use Rattle.std.proofs.lemmas.List.{append-nil}
use Rattle.target_base.specs.declared.types.Unit.{Unit as UnitNumber}
use Rattle.target_base.specs.declared.types.Reg.{Reg}
use Rattle.target_base.specs.declared.types.Effect.{Effect}
use Rattle.target_base.specs.declared.types.Effect.TheVariants as effects
use Rattle.target_base.specs.declared.types.Role.{Role}
use Rattle.target_base.specs.declared.types.UnitDesc.{UnitDesc}
use Rattle.target_base.specs.declared.types.RegDesc.{RegDesc}
use Rattle.target_base.specs.declared.types.IndexDesc.{IndexDesc}
use Rattle.target_base.specs.declared.types.ClassDesc.{ClassDesc}
use Rattle.target_base.specs.declared.types.MaskDesc.{MaskDesc}
use Rattle.target_base.specs.declared.types.OpcodeDesc.{OpcodeDesc}
use Rattle.target_base.specs.declared.types.Target.{Target}
use Rattle.target_base.specs.Names.{is_name, are_distinct_names}
use Rattle.target_base.specs.Storage.{same_numbers}
use Rattle.target_base.specs.Rules.{is_sound, is_unit_desc, is_reg_desc, is_index_desc, is_class_desc, is_mask_desc, is_opcode_desc, is_complete, is_given, is_copy, is_phi, is_implicit_def, is_reg_sequence, is_insert_subreg, starts_with_the_five, are_units, are_regs, are_reserved, are_indexes, are_classes, are_masks, are_opcodes, are_flag_words}
use Rattle.target_base.proofs.Tests.{first_of_both, second_of_both}
use Rattle.target_desc.specs.declared.raw.Header.{Header}
use Rattle.target_desc.specs.declared.draft.Draft.{Draft}
use Rattle.target_desc.specs.declared.draft.Options.{Options}
use Rattle.word_set.specs.Words.{is_fresh, with_name}
use Rattle.target_desc.specs.Forms.{text_forms_of}
use Rattle.target_desc.specs.Drafts.{no_options, empty_draft, the_five}
use Rattle.target_desc.specs.Adding.{with_form}
use Rattle.target_desc.specs.Ending.{Parts, options_of, parts_under, is_whole, reserved_of, ended}
use Rattle.target_desc.specs.Reading.{line_after, spelled}
use Rattle.target_desc.specs.Laws.{Lead, PrintedIsSpelled}
use Rattle.target_desc.specs.Printed.{listed, form_words, option_lines, unit_line, reg_line, index_line, class_line, mask_line, opcode_line, reserved_lines, reserved_regs, target_lines, target_text}
use Rattle.target_desc.proofs.Grown.{both, all_join}
use Rattle.target_desc.proofs.Spaced.{is_word, lacks, lines_back}
use Rattle.target_desc.proofs.Digits.{flags_are_words}
use Rattle.target_desc.proofs.OptedIn.{forms_in, FormsBack, forms_back, flags_back}
use Rattle.target_desc.proofs.FirstFault.{spells_or_fails}
use Rattle.target_desc.proofs.ReservedBack.{reserved_back, reserved_regs_there}
use Rattle.target_desc.proofs.LinesStand.{so_far, header_stands, forms_stand, flags_stand, room_left, rule_kept, name_is_new, unit_stands, reg_stands, reserved_stands, index_stands, class_stands, mask_stands, opcode_stands, header_lacks, listed_lacks, unit_lacks, reg_lacks, reserved_lacks, index_lacks, class_lacks, mask_lacks, opcode_lacks}

no_forms : text_forms_of [] ≡ Some []
unfolding text_forms_of
no_forms = refl

lead_join : (d e f : Draft) (xs ys : List (List ℕ)) → Lead d xs e → Lead e ys f → Lead d (xs ++ ys) f
lead_join d e f [] ys l k = subst (λ q. Lead q ys f) (sym l) k
lead_join d e f (x ∷ xs) ys l k = (l.0, l.1, lead_join l.0 e f xs ys l.2 k)

-- lines of one sort, each after those before it
module _ {X : Type 0} (xs : List X) (draft : List X → Draft) (line : X → List ℕ)
    (step : (done : List X) (x : X) (rest : List X) → done ++ x ∷ rest ≡ xs → line_after (draft done) (line x) ≡ Ok (draft (done ++ x ∷ []))) where
  leads_from : (done rest : List X) → done ++ rest ≡ xs → Lead (draft done) (map line rest) (draft xs)
  leads_from done [] e = ap draft (sym (append-nil done) ∙ e)
  leads_from done (x ∷ rest) e = (draft (done ++ x ∷ []), step done x rest e, leads_from (done ++ x ∷ []) rest (append_assoc done (x ∷ []) rest ∙ e))

  leads : Lead (draft []) (map line xs) (draft xs)
  leads = leads_from [] xs refl

-- a list with few elements, a rule and distinct names, at one of its elements
module _ {X : Type 0} (name : X → List ℕ) (rule : X → Bool) (most : ℕ) (xs : List X) (h : (nat_le (length xs) most && list_all rule xs && are_distinct_names (map name xs)) ≡ true) (done : List X) (x : X) (rest : List X) (e : done ++ x ∷ rest ≡ xs) where
  room : nat_lt (length done) most ≡ true
  room = room_left name rule done x rest most (ap (λ ys. nat_le (length ys) most) e ∙ first_of_both _ _ (first_of_both _ _ h))

  good : rule x ≡ true
  good = rule_kept name rule done x rest (ap (list_all rule) e ∙ second_of_both _ _ (first_of_both _ _ h))

  new : is_fresh (map name done) (name x) ≡ true
  new = name_is_new name rule done x rest (ap (λ ys. are_distinct_names (map name ys)) e ∙ second_of_both _ _ h)

-- the first five opcodes
numbers_same : (xs ys : List ℕ) → same_numbers xs ys ≡ true → xs ≡ ys
numbers_same [] [] h = refl
numbers_same [] (y ∷ ys) h = absurd (cc)
numbers_same (x ∷ xs) [] h = absurd (cc)
numbers_same (x ∷ xs) (y ∷ ys) h = λ i. eqb-true x y (first_of_both _ _ h) i ∷ numbers_same xs ys (second_of_both _ _ h) i

is_the : (name : List ℕ) (test : Effect → Bool) (e : Effect) (o : OpcodeDesc) → (test o.effect ≡ true → o.effect ≡ e) → is_given name test o ≡ true → o ≡ record { name = name; effect = e; roles = [] }
is_the name test e o known h =
    let n = numbers_same o.name name (first_of_both _ _ (first_of_both _ _ h)) in
    let k = known (second_of_both _ _ (first_of_both _ _ h)) in
    let none = no_roles o.roles (eqb-true (length o.roles) 0 (second_of_both _ _ h)) in
    λ i. record { name = n i; effect = k i; roles = none i }
  where
    no_roles : (rs : List Role) → length rs ≡ 0 → rs ≡ []
    no_roles [] e = refl
    no_roles (r ∷ rs) e = absurd (omega arith)

copy_known : (e : Effect) → is_copy e ≡ true → e ≡ effects.Copy
copy_known effects.Copy h = refl
copy_known _ h = absurd (cc)

phi_known : (e : Effect) → is_phi e ≡ true → e ≡ effects.Phi
phi_known effects.Phi h = refl
phi_known _ h = absurd (cc)

implicit_known : (e : Effect) → is_implicit_def e ≡ true → e ≡ effects.ImplicitDef
implicit_known effects.ImplicitDef h = refl
implicit_known _ h = absurd (cc)

sequence_known : (e : Effect) → is_reg_sequence e ≡ true → e ≡ effects.RegSequence
sequence_known effects.RegSequence h = refl
sequence_known _ h = absurd (cc)

insert_known : (e : Effect) → is_insert_subreg e ≡ true → e ≡ effects.InsertSubreg
insert_known effects.InsertSubreg h = refl
insert_known _ h = absurd (cc)

five_first : (os : List OpcodeDesc) → starts_with_the_five os ≡ true → the_five ++ drop 5 os ≡ os
five_first (a ∷ b ∷ c ∷ d ∷ e ∷ os) h =
    let first = is_the (codes "COPY") is_copy effects.Copy a (copy_known a.effect) (first_of_both _ _ (first_of_both _ _ (first_of_both _ _ (first_of_both _ _ h)))) in
    let second = is_the (codes "PHI") is_phi effects.Phi b (phi_known b.effect) (second_of_both _ _ (first_of_both _ _ (first_of_both _ _ (first_of_both _ _ h)))) in
    let third = is_the (codes "IMPLICIT_DEF") is_implicit_def effects.ImplicitDef c (implicit_known c.effect) (second_of_both _ _ (first_of_both _ _ (first_of_both _ _ h))) in
    let fourth = is_the (codes "REG_SEQUENCE") is_reg_sequence effects.RegSequence d (sequence_known d.effect) (second_of_both _ _ (first_of_both _ _ h)) in
    let fifth = is_the (codes "INSERT_SUBREG") is_insert_subreg effects.InsertSubreg e (insert_known e.effect) (second_of_both _ _ h) in
    λ i. sym first i ∷ sym second i ∷ sym third i ∷ sym fourth i ∷ sym fifth i ∷ os
five_first [] h = absurd (cc)
five_first (a ∷ []) h = absurd (cc)
five_first (a ∷ b ∷ []) h = absurd (cc)
five_first (a ∷ b ∷ c ∷ []) h = absurd (cc)
five_first (a ∷ b ∷ c ∷ d ∷ []) h = absurd (cc)

-- all elements keep a rule that asks for a name
names_of_all : {X : Type 0} (name : X → List ℕ) (rule : X → Bool) (xs : List X) → ((x : X) → rule x ≡ true → is_name (name x) ≡ true) → list_all rule xs ≡ true → list_all is_name (map name xs) ≡ true
names_of_all name rule [] f h = refl
names_of_all name rule (x ∷ xs) f h = both _ _ (f x (first_of_both _ _ h)) (names_of_all name rule xs f (second_of_both _ _ h))

lines_lack : {X : Type 0} (line : X → List ℕ) (rule : X → Bool) (xs : List X) → ((x : X) → rule x ≡ true → lacks 10 (line x) ≡ true) → list_all rule xs ≡ true → list_all (lacks 10) (map line xs) ≡ true
lines_lack line rule [] f h = refl
lines_lack line rule (x ∷ xs) f h = both _ _ (f x (first_of_both _ _ h)) (lines_lack line rule xs f (second_of_both _ _ h))

-- a target's parts, each with the rules that it keeps
module _ (h : Header) (os : Options) (units : List UnitDesc) (regs : List RegDesc) (reserved : List UnitNumber) (indexes : List IndexDesc) (classes : List ClassDesc) (masks : List MaskDesc) (opcodes : List OpcodeDesc)
    (hn : is_name h.name ≡ true) (hv : (h.version == 1 || h.version == 2) ≡ true)
    (hu : are_units units ≡ true) (hr : are_regs h.version units regs ≡ true) (hs : are_reserved regs reserved ≡ true) (hi : are_indexes h.version indexes ≡ true)
    (hc : are_classes units regs classes ≡ true) (hm : are_masks (length regs) masks ≡ true) (ho : are_opcodes units regs classes opcodes ≡ true)
    (hw : list_all (is_complete regs reserved indexes classes opcodes) classes ≡ true)
    (hf : are_flag_words os.flags ≡ true) where
  abbrev parts : Parts
  parts = record { name = h.name; version = h.version; units = units; regs = regs; reserved = reserved; indexes = indexes; classes = classes; masks = masks; opcodes = opcodes; options = os }

  abbrev rs : List Reg
  rs = reserved_regs regs reserved

  each_unit : list_all is_unit_desc units ≡ true
  each_unit = second_of_both _ _ (first_of_both _ _ hu)

  each_reg : list_all (is_reg_desc h.version units) regs ≡ true
  each_reg = second_of_both _ _ (first_of_both _ _ hr)

  each_class : list_all (is_class_desc units regs) classes ≡ true
  each_class = second_of_both _ _ (first_of_both _ _ hc)

  each_opcode : list_all (is_opcode_desc units regs classes) (drop 5 opcodes) ≡ true
  each_opcode = second_of_both _ _ (first_of_both _ _ ho)

  unit_names : list_all is_name (map (λ u. u.name) units) ≡ true
  unit_names = names_of_all (λ u. u.name) is_unit_desc units (λ u e. first_of_both _ _ (first_of_both _ _ e)) each_unit

  reg_names : list_all is_name (map (λ r. r.name) regs) ≡ true
  reg_names = names_of_all (λ r. r.name) (is_reg_desc h.version units) regs (λ r e. first_of_both _ _ (first_of_both _ _ (first_of_both _ _ (first_of_both _ _ (first_of_both _ _ e))))) each_reg

  class_names : list_all is_name (map (λ c. c.name) classes) ≡ true
  class_names = names_of_all (λ c. c.name) (is_class_desc units regs) classes (λ c e. first_of_both _ _ (first_of_both _ _ (first_of_both _ _ (first_of_both _ _ (first_of_both _ _ e))))) each_class

  unit_distinct : are_distinct_names (map (λ u. u.name) units) ≡ true
  unit_distinct = second_of_both _ _ hu

  reg_distinct : are_distinct_names (map (λ r. r.name) regs) ≡ true
  reg_distinct = second_of_both _ _ hr

  class_distinct : are_distinct_names (map (λ c. c.name) classes) ≡ true
  class_distinct = second_of_both _ _ hc

  five : the_five ++ drop 5 opcodes ≡ opcodes
  five = five_first opcodes (second_of_both _ _ (first_of_both _ _ (first_of_both _ _ ho)))

  lead_forms : Lead (so_far h no_options [] [] [] [] [] [] []) (listed (codes "form") (form_words os)) (so_far h (record os { flags = [] }) [] [] [] [] [] [] [])
  lead_forms = by (form_words os) refl
    where
      back : FormsBack os
      back = forms_back os

      by : (ws : List (List ℕ)) → form_words os ≡ ws → Lead (so_far h no_options [] [] [] [] [] [] []) (listed (codes "form") ws) (so_far h (record os { flags = [] }) [] [] [] [] [] [] [])
      by [] e =
          let none : Some (forms_in os) ≡ Some [] = sym back.read ∙ ap text_forms_of e ∙ no_forms in
          let empty : forms_in os ≡ [] = cc in
          ap (λ fs. so_far h (fold with_form no_options fs) [] [] [] [] [] [] []) (sym empty) ∙ ap (λ o. so_far h o [] [] [] [] [] [] []) back.same
      by (w ∷ ws) e =
          let stands = forms_stand h no_options w ws (forms_in os) (ap (list_all is_word) (sym e) ∙ back.are_words) (ap text_forms_of (sym e) ∙ back.read) in
          (so_far h (record os { flags = [] }) [] [] [] [] [] [] [], stands ∙ ap (λ o. Ok (so_far h o [] [] [] [] [] [] [])) back.same, refl)

  lead_flags : Lead (so_far h (record os { flags = [] }) [] [] [] [] [] [] []) (listed (codes "flags") os.flags) (so_far h os [] [] [] [] [] [] [])
  lead_flags = by os.flags refl
    where
      by : (ws : List (List ℕ)) → os.flags ≡ ws → Lead (so_far h (record os { flags = [] }) [] [] [] [] [] [] []) (listed (codes "flags") ws) (so_far h os [] [] [] [] [] [] [])
      by [] e = ap (λ ws. so_far h (record os { flags = ws }) [] [] [] [] [] [] []) (sym e)
      by (w ∷ ws) e =
          let good : are_flag_words (w ∷ ws) ≡ true = ap are_flag_words (sym e) ∙ hf in
          let same : fold with_name [] (w ∷ ws) ≡ os.flags = flags_back (w ∷ ws) good ∙ sym e in
          (so_far h os [] [] [] [] [] [] [], flags_stand h (record os { flags = [] }) w ws (first_of_both _ _ good) ∙ ap (λ names. Ok (so_far h (record os { flags = names }) [] [] [] [] [] [] [])) same, refl)

  lead_units : Lead (so_far h os [] [] [] [] [] [] []) (map unit_line units) (so_far h os units [] [] [] [] [] [])
  lead_units = leads units (λ us. so_far h os us [] [] [] [] [] []) unit_line
      (λ done u rest e. unit_stands h os units done u (room (λ x. x.name) is_unit_desc 512 units hu done u rest e) (good (λ x. x.name) is_unit_desc 512 units hu done u rest e) (new (λ x. x.name) is_unit_desc 512 units hu done u rest e))

  lead_regs : Lead (so_far h os units [] [] [] [] [] []) (map (reg_line units) regs) (so_far h os units regs [] [] [] [] [])
  lead_regs = leads regs (λ xs. so_far h os units xs [] [] [] [] []) (reg_line units)
      (λ done r rest e. reg_stands h os units done r unit_names unit_distinct (room (λ x. x.name) (is_reg_desc h.version units) 512 regs hr done r rest e) (good (λ x. x.name) (is_reg_desc h.version units) 512 regs hr done r rest e) (new (λ x. x.name) (is_reg_desc h.version units) 512 regs hr done r rest e))

  lead_reserved_of : (qs : List Reg) → list_all (λ r. nat_lt r.0 (length regs)) qs ≡ true → Lead (so_far h os units regs [] [] [] [] []) (reserved_lines regs qs) (so_far h os units regs qs [] [] [] [])
  lead_reserved_of [] known = refl
  lead_reserved_of (q ∷ qs) known = (so_far h os units regs (q ∷ qs) [] [] [] [], reserved_stands h os units regs reg_names reg_distinct (q ∷ qs) known (lt-ltb 0 (length (q ∷ qs)) (omega arith)), refl)

  lead_indexes : Lead (so_far h os units regs rs [] [] [] []) (map index_line indexes) (so_far h os units regs rs indexes [] [] [])
  lead_indexes = leads indexes (λ xs. so_far h os units regs rs xs [] [] []) index_line
      (λ done x rest e. index_stands h os units regs rs done x (room (λ i. i.name) (is_index_desc h.version) 512 indexes hi done x rest e) (good (λ i. i.name) (is_index_desc h.version) 512 indexes hi done x rest e) (new (λ i. i.name) (is_index_desc h.version) 512 indexes hi done x rest e))

  lead_classes : Lead (so_far h os units regs rs indexes [] [] []) (map (class_line regs) classes) (so_far h os units regs rs indexes classes [] [])
  lead_classes = leads classes (λ xs. so_far h os units regs rs indexes xs [] []) (class_line regs)
      (λ done c rest e. class_stands h os units regs reg_names reg_distinct rs indexes done c (room (λ x. x.name) (is_class_desc units regs) 512 classes hc done c rest e) (good (λ x. x.name) (is_class_desc units regs) 512 classes hc done c rest e) (new (λ x. x.name) (is_class_desc units regs) 512 classes hc done c rest e))

  lead_masks : Lead (so_far h os units regs rs indexes classes [] []) (map (mask_line regs) masks) (so_far h os units regs rs indexes classes masks [])
  lead_masks = leads masks (λ xs. so_far h os units regs rs indexes classes xs []) (mask_line regs)
      (λ done m rest e. mask_stands h os units regs reg_names reg_distinct rs indexes classes done m (room (λ x. x.name) (is_mask_desc (length regs)) 512 masks hm done m rest e) (good (λ x. x.name) (is_mask_desc (length regs)) 512 masks hm done m rest e) (new (λ x. x.name) (is_mask_desc (length regs)) 512 masks hm done m rest e))

  -- the same of all opcodes, the first five among them
  split_five : (done : List OpcodeDesc) (o : OpcodeDesc) (rest : List OpcodeDesc) → done ++ o ∷ rest ≡ drop 5 opcodes → (the_five ++ done) ++ o ∷ rest ≡ opcodes
  split_five done o rest e = append_assoc the_five done (o ∷ rest) ∙ ap (λ xs. the_five ++ xs) e ∙ five

  opcode_room : (done : List OpcodeDesc) (o : OpcodeDesc) (rest : List OpcodeDesc) → done ++ o ∷ rest ≡ drop 5 opcodes → nat_lt (length (the_five ++ done)) 1024 ≡ true
  opcode_room done o rest e = room_left (λ x. x.name) (is_opcode_desc units regs classes) (the_five ++ done) o rest 1024 (ap (λ xs. nat_le (length xs) 1024) (split_five done o rest e) ∙ first_of_both _ _ (first_of_both _ _ (first_of_both _ _ ho)))

  opcode_new : (done : List OpcodeDesc) (o : OpcodeDesc) (rest : List OpcodeDesc) → done ++ o ∷ rest ≡ drop 5 opcodes → is_fresh (map (λ x. x.name) (the_five ++ done)) o.name ≡ true
  opcode_new done o rest e = name_is_new (λ x. x.name) (is_opcode_desc units regs classes) (the_five ++ done) o rest (ap (λ xs. are_distinct_names (map (λ x. x.name) xs)) (split_five done o rest e) ∙ second_of_both _ _ ho)

  lead_opcodes : Lead (so_far h os units regs rs indexes classes masks []) (map (opcode_line classes regs) (drop 5 opcodes)) (so_far h os units regs rs indexes classes masks (drop 5 opcodes))
  lead_opcodes = leads (drop 5 opcodes) (so_far h os units regs rs indexes classes masks) (opcode_line classes regs)
      (λ done o rest e. opcode_stands h os units regs rs indexes classes masks class_names reg_names class_distinct reg_distinct done o (opcode_room done o rest e) (rule_kept (λ x. x.name) (is_opcode_desc units regs classes) done o rest (ap (list_all (is_opcode_desc units regs classes)) e ∙ each_opcode)) (opcode_new done o rest e))

  abbrev last_draft : Draft
  last_draft = so_far h os units regs rs indexes classes masks (drop 5 opcodes)

  all_lead : Lead empty_draft (target_lines parts) last_draft
  all_lead = (
    so_far h no_options [] [] [] [] [] [] [],
    header_stands h hn hv,
    lead_join _ _ _ _ _
        (lead_join _ _ _ _ _
        (lead_join _ _ _ _ _
        (lead_join _ _ _ _ _
        (lead_join _ _ _ _ _
        (lead_join _ _ _ _ _
        (lead_join _ _ _ _ _
        (lead_join _ _ _ _ _ lead_forms lead_flags)
        lead_units) lead_regs)
        (lead_reserved_of rs (reserved_regs_there regs reserved)))
        lead_indexes) lead_classes) lead_masks) lead_opcodes,
  )

  all_lack : list_all (lacks 10) (target_lines parts) ≡ true
  all_lack =
      let o = option_lines os in
      let a = map unit_line units in
      let b = map (reg_line units) regs in
      let c = reserved_lines regs rs in
      let d = map index_line indexes in
      let e = map (class_line regs) classes in
      let f = map (mask_line regs) masks in
      let g = map (opcode_line classes regs) (drop 5 opcodes) in
      let opted = all_join (lacks 10) (listed (codes "form") (form_words os)) (listed (codes "flags") os.flags) (listed_lacks (codes "form") (form_words os) refl ((forms_back os).are_words)) (listed_lacks (codes "flags") os.flags refl (flags_are_words os.flags (first_of_both _ _ hf))) in
      let oa = all_join (lacks 10) o a opted (lines_lack unit_line is_unit_desc units unit_lacks each_unit) in
      let ab = all_join (lacks 10) (o ++ a) b oa (lines_lack (reg_line units) (is_reg_desc h.version units) regs (λ r. reg_lacks h.version units r unit_names) each_reg) in
      let abc = all_join (lacks 10) (o ++ a ++ b) c ab (reserved_lacks regs reg_names rs (reserved_regs_there regs reserved)) in
      let abcd = all_join (lacks 10) (o ++ a ++ b ++ c) d abc (lines_lack index_line (is_index_desc h.version) indexes (index_lacks h.version) (second_of_both _ _ (first_of_both _ _ hi))) in
      let abcde = all_join (lacks 10) (o ++ a ++ b ++ c ++ d) e abcd (lines_lack (class_line regs) (is_class_desc units regs) classes (class_lacks regs reg_names units) each_class) in
      let abcdef = all_join (lacks 10) (o ++ a ++ b ++ c ++ d ++ e) f abcde (lines_lack (mask_line regs) (is_mask_desc (length regs)) masks (mask_lacks regs reg_names) (second_of_both _ _ (first_of_both _ _ hm))) in
      let all = all_join (lacks 10) (o ++ a ++ b ++ c ++ d ++ e ++ f) g abcdef (lines_lack (opcode_line classes regs) (is_opcode_desc units regs classes) (drop 5 opcodes) (opcode_lacks units regs classes class_names reg_names class_distinct reg_distinct) each_opcode) in
      both _ _ (header_lacks h.name h.version hn hv) all

  reserved_same : reserved_of last_draft ≡ reserved
  reserved_same = reserved_back h.version units regs reserved each_reg hs

  whole : is_whole last_draft ≡ true
  unfolding is_whole
  whole = (λ i. list_all (is_complete regs (reserved_same i) indexes classes (five i)) classes) ∙ hw

  same_parts : parts_under h last_draft ≡ parts
  unfolding parts_under
  same_parts = λ i. record { name = h.name; version = h.version; units = units; regs = regs; reserved = reserved_same i; indexes = indexes; classes = classes; masks = masks; opcodes = five i; options = os }

  ends_whole : ended last_draft ≡ Some parts
  ends_whole = rw whole (ap Some same_parts)

  read_back : spelled (target_text parts) ≡ Ok parts
  read_back = spells_or_fails.1 (target_text parts) parts (record { draft = last_draft; stand = subst (λ ls. Lead empty_draft ls last_draft) (sym (lines_back (target_lines parts) all_lack)) all_lead; whole = ends_whole })

module _ (t : Target) where
  abbrev sound : is_sound t.name t.version t.units t.regs t.reserved t.indexes t.classes t.masks t.opcodes ≡ true
  sound = t.sound

pub printed_spelled : PrintedIsSpelled
unfolding is_sound
printed_spelled t =
    let s = sound t in
    let s1 = first_of_both _ _ s in
    let s2 = first_of_both _ _ s1 in
    let s3 = first_of_both _ _ s2 in
    let s4 = first_of_both _ _ s3 in
    let s5 = first_of_both _ _ s4 in
    let s6 = first_of_both _ _ s5 in
    let s7 = first_of_both _ _ s6 in
    let s8 = first_of_both _ _ s7 in
    read_back (record { name = t.name; version = t.version }) (options_of t.options) t.units t.regs t.reserved t.indexes t.classes t.masks t.opcodes
    (first_of_both _ _ s8) (second_of_both _ _ s8) (second_of_both _ _ s7) (second_of_both _ _ s6) (second_of_both _ _ s5) (second_of_both _ _ s4) (second_of_both _ _ s3) (second_of_both _ _ s2) (second_of_both _ _ s1) (second_of_both _ _ s) t.options.sound
