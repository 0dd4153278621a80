-- A line that stands leaves a draft that keeps the rules.
use Rattle.std.proofs.Common.{◌≡◌, ℕ, List, [], ◌∷◌, ◌++◌, length, Some, None, true, refl, ap, sym, ◌∙◌}
use Rattle.std.specs.Prelude.{◌&&◌, ◌==◌, nat_lt, Option}
use Rattle.std.specs.List.{list_all}
use Rattle.std.proofs.lemmas.Bool.{eqb-true}
use Rattle.std.proofs.lemmas.List.{append-nil, map_push, nil_from_length}
use Rattle.target_base.specs.declared.types.Reg.{Reg}
use Rattle.target_base.specs.declared.types.UnitDesc.{UnitDesc}
use Rattle.target_base.specs.declared.types.RegDesc.{RegDesc}
use Rattle.target_base.specs.declared.types.IndexDesc.{IndexDesc}
use Rattle.target_base.specs.declared.types.ClassDesc.{ClassDesc}
use Rattle.target_base.specs.declared.types.MaskDesc.{MaskDesc}
use Rattle.target_base.specs.declared.types.OpcodeDesc.{OpcodeDesc}
use Rattle.target_base.specs.Rules.{are_units, are_regs, are_indexes, are_classes, are_masks, are_opcodes, are_flag_words}
use Rattle.target_base.proofs.Tests.{first_of_both, second_of_both}
use Rattle.target_desc.specs.declared.raw.Header.{Header}
use Rattle.target_desc.specs.declared.draft.Draft.{Draft}
use Rattle.target_desc.specs.declared.draft.Line.{Line}
use Rattle.target_desc.specs.declared.draft.Line.TheVariants as lines
use Rattle.target_desc.specs.Drafts.{empty_draft, names_of}
use Rattle.target_desc.specs.Resolving.{is_new}
use Rattle.target_desc.specs.Standing.{is_header, starts, stands, stands_in, stands_under}
use Rattle.target_desc.specs.Keeping.{is_blank, keeps_in, keeps_under, keeps_rules}
use Rattle.target_desc.specs.Adding.{added, noted}
use Rattle.target_desc.proofs.Grown.{both, all_kept, all_join, below_more}
use Rattle.target_desc.proofs.OptedIn.{forms_keep, flags_kept}
use Rattle.target_desc.proofs.Kept.{regs_kept, classes_kept, masks_kept, opcodes_kept, units_grown, regs_grown, indexes_grown, classes_grown, masks_grown, opcodes_grown, longer}

-- the rules, one by one
pub record Rules (h : Header) (d : Draft) : Type 0 where
  pub header : is_header h ≡ true
  pub units : are_units d.units ≡ true
  pub regs : are_regs h.version d.units d.regs ≡ true
  pub reserved : list_all (λ r. nat_lt r.0 (length d.regs)) d.reserved ≡ true
  pub indexes : are_indexes h.version d.indexes ≡ true
  pub classes : are_classes d.units d.regs d.classes ≡ true
  pub masks : are_masks (length d.regs) d.masks ≡ true
  pub opcodes : are_opcodes d.units d.regs d.classes d.opcodes ≡ true
  pub flags : are_flag_words d.options.flags ≡ true

pub rules_from : (h : Header) (d : Draft) → keeps_in h d ≡ true → Rules h d
rules_from h d k = record {
  header = first_of_both _ _ (first_of_both _ _ (first_of_both _ _ (first_of_both _ _ (first_of_both _ _ (first_of_both _ _ (first_of_both _ _ (first_of_both _ _ k)))))));
  units = second_of_both _ _ (first_of_both _ _ (first_of_both _ _ (first_of_both _ _ (first_of_both _ _ (first_of_both _ _ (first_of_both _ _ (first_of_both _ _ k)))))));
  regs = second_of_both _ _ (first_of_both _ _ (first_of_both _ _ (first_of_both _ _ (first_of_both _ _ (first_of_both _ _ (first_of_both _ _ k))))));
  reserved = second_of_both _ _ (first_of_both _ _ (first_of_both _ _ (first_of_both _ _ (first_of_both _ _ (first_of_both _ _ k)))));
  indexes = second_of_both _ _ (first_of_both _ _ (first_of_both _ _ (first_of_both _ _ (first_of_both _ _ k))));
  classes = second_of_both _ _ (first_of_both _ _ (first_of_both _ _ (first_of_both _ _ k)));
  masks = second_of_both _ _ (first_of_both _ _ (first_of_both _ _ k));
  opcodes = second_of_both _ _ (first_of_both _ _ k);
  flags = second_of_both _ _ k;
}

rules_into : (h : Header) (d : Draft) → Rules h d → keeps_in h d ≡ true
rules_into h d r = both _ _ (both _ _ (both _ _ (both _ _ (both _ _ (both _ _ (both _ _ (both _ _ r.header r.units) r.regs) r.reserved) r.indexes) r.classes) r.masks) r.opcodes) r.flags

-- the first line that says something
blank_rules : (h : Header) (units : List UnitDesc) (regs : List RegDesc) (reserved : List Reg) (indexes : List IndexDesc) (classes : List ClassDesc) (masks : List MaskDesc) (opcodes : List OpcodeDesc) →
    is_header h ≡ true → units ≡ [] → regs ≡ [] → reserved ≡ [] → indexes ≡ [] → classes ≡ [] → masks ≡ [] → are_opcodes units regs classes opcodes ≡ true
    → (is_header h && are_units units && are_regs h.version units regs && list_all (λ r. nat_lt r.0 (length regs)) reserved && are_indexes h.version indexes && are_classes units regs classes && are_masks (length regs) masks && are_opcodes units regs classes opcodes) ≡ true
blank_rules h [] [] [] [] [] [] opcodes a b c d e f g o = rw a o
blank_rules h (u ∷ us) _ _ _ _ _ opcodes a b c d e f g o = absurd (cc)
blank_rules h [] (r ∷ rs) _ _ _ _ opcodes a b c d e f g o = absurd (cc)
blank_rules h [] [] (r ∷ rs) _ _ _ opcodes a b c d e f g o = absurd (cc)
blank_rules h [] [] [] (x ∷ xs) _ _ opcodes a b c d e f g o = absurd (cc)
blank_rules h [] [] [] [] (x ∷ xs) _ opcodes a b c d e f g o = absurd (cc)
blank_rules h [] [] [] [] [] (x ∷ xs) opcodes a b c d e f g o = absurd (cc)

empty_list : {X : Type 0} (xs : List X) → (length xs == 0) ≡ true → xs ≡ []
empty_list xs h = nil_from_length xs (eqb-true (length xs) 0 h)

first_line : (d : Draft) (h : Header) → is_blank d ≡ true → is_header h ≡ true → keeps_in h (record d { header = Some h }) ≡ true
first_line d h k g =
    both _ _
    (blank_rules h d.units d.regs d.reserved d.indexes d.classes d.masks d.opcodes g
    (empty_list d.units (first_of_both _ _ (first_of_both _ _ (first_of_both _ _ (first_of_both _ _ (first_of_both _ _ (first_of_both _ _ (first_of_both _ _ k))))))))
    (empty_list d.regs (second_of_both _ _ (first_of_both _ _ (first_of_both _ _ (first_of_both _ _ (first_of_both _ _ (first_of_both _ _ (first_of_both _ _ k))))))))
    (empty_list d.reserved (second_of_both _ _ (first_of_both _ _ (first_of_both _ _ (first_of_both _ _ (first_of_both _ _ (first_of_both _ _ k)))))))
    (empty_list d.indexes (second_of_both _ _ (first_of_both _ _ (first_of_both _ _ (first_of_both _ _ (first_of_both _ _ k))))))
    (empty_list d.classes (second_of_both _ _ (first_of_both _ _ (first_of_both _ _ (first_of_both _ _ k)))))
    (empty_list d.masks (second_of_both _ _ (first_of_both _ _ (first_of_both _ _ k))))
    (second_of_both _ _ (first_of_both _ _ k)))
    (second_of_both _ _ k)

next_line : (h : Header) (d : Draft) (l : Line) → Rules h d → is_new (names_of d) l ≡ true → stands_in h.version d l ≡ true → Rules h (added d l)
unfolding added is_new stands_in
next_line h d (lines.Target x) r n s = absurd (cc)
next_line h d (lines.Unit u) r n s = record {
  header = r.header;
  units = units_grown d.units u s n r.units;
  regs = regs_kept h.version d.units (u ∷ []) d.regs r.regs;
  reserved = r.reserved;
  indexes = r.indexes;
  classes = ap (λ rs. are_classes (d.units ++ u ∷ []) rs d.classes) (sym (append-nil d.regs)) ∙ classes_kept h.version d.units (u ∷ []) d.regs [] d.classes r.regs r.classes;
  masks = r.masks;
  opcodes = (λ i. are_opcodes (d.units ++ u ∷ []) (sym (append-nil d.regs) i) (sym (append-nil d.classes) i) d.opcodes) ∙ opcodes_kept h.version d.units (u ∷ []) d.regs [] d.classes [] d.opcodes r.regs r.classes r.opcodes;
  flags = r.flags;
}
next_line h d (lines.Reg x) r n s = record {
  header = r.header;
  units = r.units;
  regs = regs_grown h.version d.units d.regs x s n r.regs;
  reserved = all_kept (λ q. nat_lt q.0 (length d.regs)) (λ q. nat_lt q.0 (length (d.regs ++ x ∷ []))) d.reserved (λ q. below_more _ _ q.0 (longer d.regs (x ∷ []))) r.reserved;
  indexes = r.indexes;
  classes = ap (λ us. are_classes us (d.regs ++ x ∷ []) d.classes) (sym (append-nil d.units)) ∙ classes_kept h.version d.units [] d.regs (x ∷ []) d.classes r.regs r.classes;
  masks = masks_kept d.regs (x ∷ []) d.masks r.masks;
  opcodes = (λ i. are_opcodes (sym (append-nil d.units) i) (d.regs ++ x ∷ []) (sym (append-nil d.classes) i) d.opcodes) ∙ opcodes_kept h.version d.units [] d.regs (x ∷ []) d.classes [] d.opcodes r.regs r.classes r.opcodes;
  flags = r.flags;
}
next_line h d (lines.Reserved rs) r n s = record {
  header = r.header;
  units = r.units;
  regs = r.regs;
  reserved = all_join (λ q. nat_lt q.0 (length d.regs)) d.reserved rs r.reserved s;
  indexes = r.indexes;
  classes = r.classes;
  masks = r.masks;
  opcodes = r.opcodes;
  flags = r.flags;
}
next_line h d (lines.Index x) r n s = record {
  header = r.header;
  units = r.units;
  regs = r.regs;
  reserved = r.reserved;
  indexes = indexes_grown h.version d.indexes x s n r.indexes;
  classes = r.classes;
  masks = r.masks;
  opcodes = r.opcodes;
  flags = r.flags;
}
next_line h d (lines.Class x) r n s = record {
  header = r.header;
  units = r.units;
  regs = r.regs;
  reserved = r.reserved;
  indexes = r.indexes;
  classes = classes_grown d.units d.regs d.classes x s n r.classes;
  masks = r.masks;
  opcodes = (λ i. are_opcodes (sym (append-nil d.units) i) (sym (append-nil d.regs) i) (d.classes ++ x ∷ []) d.opcodes) ∙ opcodes_kept h.version d.units [] d.regs [] d.classes (x ∷ []) d.opcodes r.regs r.classes r.opcodes;
  flags = r.flags;
}
next_line h d (lines.Mask x) r n s = record {
  header = r.header;
  units = r.units;
  regs = r.regs;
  reserved = r.reserved;
  indexes = r.indexes;
  classes = r.classes;
  masks = masks_grown (length d.regs) d.masks x s n r.masks;
  opcodes = r.opcodes;
  flags = r.flags;
}
next_line h d (lines.Opcode x) r n s = record {
  header = r.header;
  units = r.units;
  regs = r.regs;
  reserved = r.reserved;
  indexes = r.indexes;
  classes = r.classes;
  masks = r.masks;
  opcodes = opcodes_grown d.units d.regs d.classes d.opcodes x s n r.opcodes;
  flags = r.flags;
}
next_line h d (lines.Forms fs) r n s = record {
  header = r.header;
  units = r.units;
  regs = r.regs;
  reserved = r.reserved;
  indexes = r.indexes;
  classes = r.classes;
  masks = r.masks;
  opcodes = r.opcodes;
  flags = ap are_flag_words (forms_keep d.options fs) ∙ r.flags;
}
next_line h d (lines.Flags ws) r n s = record {
  header = r.header;
  units = r.units;
  regs = r.regs;
  reserved = r.reserved;
  indexes = r.indexes;
  classes = r.classes;
  masks = r.masks;
  opcodes = r.opcodes;
  flags = flags_kept d.options.flags ws r.flags s;
}

-- no other line than the first `target` line changes the header
header_kept : (version : ℕ) (d : Draft) (l : Line) → stands_in version d l ≡ true → (added d l).header ≡ d.header
unfolding added stands_in
header_kept version d (lines.Target h) s = absurd (cc)
header_kept version d (lines.Unit u) s = refl
header_kept version d (lines.Reg r) s = refl
header_kept version d (lines.Reserved rs) s = refl
header_kept version d (lines.Index x) s = refl
header_kept version d (lines.Class c) s = refl
header_kept version d (lines.Mask m) s = refl
header_kept version d (lines.Opcode o) s = refl
header_kept version d (lines.Forms fs) s = refl
header_kept version d (lines.Flags ws) s = refl

start_kept : (d : Draft) (l : Line) → is_blank d ≡ true → starts l ≡ true → keeps_rules (added d l) ≡ true
unfolding added keeps_rules
start_kept d (lines.Target h) k s = first_line d h k s
start_kept d (lines.Unit u) k s = absurd (cc)
start_kept d (lines.Reg r) k s = absurd (cc)
start_kept d (lines.Reserved rs) k s = absurd (cc)
start_kept d (lines.Index x) k s = absurd (cc)
start_kept d (lines.Class c) k s = absurd (cc)
start_kept d (lines.Mask m) k s = absurd (cc)
start_kept d (lines.Opcode o) k s = absurd (cc)
start_kept d (lines.Forms fs) k s = absurd (cc)
start_kept d (lines.Flags ws) k s = absurd (cc)

line_kept : (o : Option Header) (d : Draft) (l : Line) → d.header ≡ o → keeps_under o d ≡ true → is_new (names_of d) l ≡ true → stands_under o d l ≡ true → keeps_rules (added d l) ≡ true
unfolding keeps_rules
line_kept None d l e k n s = start_kept d l k s
line_kept (Some h) d l e k n s =
    ap (λ o. keeps_under o (added d l)) (header_kept h.version d l s ∙ e) ∙ rules_into h (added d l) (next_line h d l (rules_from h d k) n s)

opened : (d : Draft) → keeps_rules d ≡ true → keeps_under d.header d ≡ true
unfolding keeps_rules
opened d k = k

pub added_keeps : (d : Draft) (l : Line) → keeps_rules d ≡ true → is_new (names_of d) l ≡ true → stands d l ≡ true → keeps_rules (added d l) ≡ true
added_keeps d l k n s = line_kept d.header d l refl (opened d k) n s

-- the names of the draft with the line are the names with the line's
pub names_added : (d : Draft) (l : Line) → is_new (names_of d) l ≡ true → noted (names_of d) l ≡ names_of (added d l)
unfolding added noted
names_added d (lines.Target h) n = refl
names_added d (lines.Unit u) n = ap (λ ns. record (names_of d) { units = ns }) (sym (map_push (λ x. x.name) d.units u))
names_added d (lines.Reg r) n = ap (λ ns. record (names_of d) { regs = ns }) (sym (map_push (λ x. x.name) d.regs r))
names_added d (lines.Reserved rs) n = refl
names_added d (lines.Index x) n = ap (λ ns. record (names_of d) { indexes = ns }) (sym (map_push (λ x. x.name) d.indexes x))
names_added d (lines.Class c) n = ap (λ ns. record (names_of d) { classes = ns }) (sym (map_push (λ x. x.name) d.classes c))
names_added d (lines.Mask m) n = ap (λ ns. record (names_of d) { masks = ns }) (sym (map_push (λ x. x.name) d.masks m))
names_added d (lines.Opcode o) n = ap (λ ns. record (names_of d) { opcodes = ns }) (sym (map_push (λ x. x.name) d.opcodes o))
names_added d (lines.Forms fs) n = refl
names_added d (lines.Flags ws) n = refl

pub empty_keeps : keeps_rules empty_draft ≡ true
unfolding keeps_rules empty_draft
empty_keeps = refl
