-- The key lines in which new slots are found.
use Rattle.std.proofs.Common.{◌≡◌, ℕ, ◌-◌, Bool, true, false, List, [], ◌∷◌, ◌++◌, Option, Some, None, length, take, drop, map, refl, ap, sym, ◌∙◌, append_assoc, append-nil}
use Rattle.std.specs.Prelude.{flat_map, if◌then◌else◌}
use Rattle.std.proofs.lemmas.List.{take-append-drop}
use Rattle.std.proofs.lemmas.Option.{none-some, same_Some, option_and_then_some, some_pair_parts}
use Rattle.std.proofs.lemmas.Slice.Eq.{bytes_eq-Decides}
use Rattle.target_base.specs.declared.types.ClassDesc.{ClassDesc}
use Rattle.target_base.specs.declared.types.Target.{Target}
use Rattle.mir_lines.specs.Bytes.{is_word, behind_word, before_word}
use Rattle.mir_text.specs.Document.{lines}
use Rattle.source_text.specs.Frames.{Object}
use Rattle.source_text.specs.Keys.{parts_of}
use Rattle.source_text.specs.Slots.{bytes_of, line_start, line_end, size_of, sizes_of, size_or, first_size, declared_slot, slots_behind}
use Rattle.source_text.specs.Laws.{LawOfParts, line_of, AreDeclared, LawOfLines}
use Rattle.source_text.specs.declared.slots.NewSlot.{NewSlot}

behind-is : (word text rest : List ℕ) → behind_word word text ≡ Some rest → text ≡ word ++ rest
unfolding behind_word
behind-is word text rest h = go (is_word (take (length word) text) word) refl h
  where
    go : (b : Bool) → is_word (take (length word) text) word ≡ b → (if b then Some (drop (length word) text) else None) ≡ Some rest → text ≡ word ++ rest
    go true e h =
        let front : take (length word) text ≡ word = (bytes_eq-Decides (take (length word) text) word).0 e in
        let back : drop (length word) text ≡ rest = same_Some _ _ h in
        sym (take-append-drop (length word) text) ∙ (ap (λ p. p ++ drop (length word) text) front ∙ ap (λ r. word ++ r) back)
    go false e h = absurd (none-some rest h)

before-is : (word text front : List ℕ) → before_word word text ≡ Some front → text ≡ front ++ word
unfolding before_word
before-is word text front h = go (is_word (drop (length text - length word) text) word) refl h
  where
    go : (b : Bool) → is_word (drop (length text - length word) text) word ≡ b → (if b then Some (take (length text - length word) text) else None) ≡ Some front → text ≡ front ++ word
    go true e h =
        let back : drop (length text - length word) text ≡ word = (bytes_eq-Decides (drop (length text - length word) text) word).0 e in
        let first : take (length text - length word) text ≡ front = same_Some _ _ h in
        sym (take-append-drop (length text - length word) text) ∙ (ap (λ p. p ++ drop (length text - length word) text) first ∙ ap (λ r. front ++ r) back)
    go false e h = absurd (none-some front h)

pub parts-law : LawOfParts
parts-law source head text h =
    option_and_then_some (before_word (parts_of (lines source)).below) (behind_word (parts_of (lines source)).above head) text h
    (λ rest e f. behind-is (parts_of (lines source)).above head rest e ∙ ap (λ r. (parts_of (lines source)).above ++ r) (before-is (parts_of (lines source)).below rest text f))

sized : (t : Target) (ds : List ClassDesc) (text : List ℕ) (bytes : ℕ) (rest : List ℕ) → first_size (map (size_of t) ds) text ≡ Some (bytes, rest) → text ≡ line_end bytes ++ rest
sized t [] text bytes rest h = absurd (none-some (bytes, rest) h)
sized t (d ∷ ds) text bytes rest h = go (λ k. sized t ds text bytes rest k) (behind_word (line_end (bytes_of t d)) text) refl h
  where
    go : (first_size (map (size_of t) ds) text ≡ Some (bytes, rest) → text ≡ line_end bytes ++ rest) → (o : Option (List ℕ)) → behind_word (line_end (bytes_of t d)) text ≡ o → size_or (first_size (map (size_of t) ds) text) (bytes_of t d) o ≡ Some (bytes, rest) → text ≡ line_end bytes ++ rest
    go later None e h = later h
    go later (Some r) e h =
        let parts = some_pair_parts (bytes_of t d) bytes r rest h in
        behind-is (line_end (bytes_of t d)) text r e ∙ (ap (λ b. line_end b ++ r) parts.0 ∙ ap (λ q. line_end bytes ++ q) parts.1)

declared : (t : Target) (n : ℕ) (text : List ℕ) (bytes : ℕ) (rest : List ℕ) → declared_slot (sizes_of t) n text ≡ Some (bytes, rest) → text ≡ (line_start n ++ line_end bytes) ++ rest
declared t n text bytes rest h =
    option_and_then_some (first_size (sizes_of t)) (behind_word (line_start n) text) (bytes, rest) h
    (λ more e f.
    behind-is (line_start n) text more e ∙ (ap (λ m. line_start n ++ m) (sized t t.classes more bytes rest f) ∙ sym (append_assoc (line_start n) (line_end bytes) rest)))

-- the slots behind those that were there
record AreBehind (made : List NewSlot) (os : List Object) (text : List ℕ) (slots : List NewSlot) : Type 0 where
  new : List NewSlot
  all : slots ≡ made ++ new
  are : AreDeclared os text new

behind-all : (t : Target) (made : List NewSlot) (os : List Object) (text : List ℕ) (slots : List NewSlot) → slots_behind made (sizes_of t) os text ≡ Some slots → AreBehind made os text slots
behind-all t made [] [] slots h = record { new = []; all = sym (same_Some _ _ h) ∙ sym (append-nil made); are = record { same = refl; is = refl } }
behind-all t made [] (b ∷ bs) slots h = absurd (none-some slots h)
behind-all t made (o ∷ os) text slots h =
    option_and_then_some (λ p. slots_behind (made ++ record { number = o.0; bytes = p.0 } ∷ []) (sizes_of t) os p.1) (declared_slot (sizes_of t) o.0 text) slots h
    (λ p e f.
    let s : NewSlot = record { number = o.0; bytes = p.0 } in
    let more = behind-all t (made ++ s ∷ []) os p.1 slots f in
    record {
      new = s ∷ more.new;
      all = more.all ∙ append_assoc made (s ∷ []) more.new;
      are = record {
        same = ap (λ ns. o.0 ∷ ns) more.are.same;
        is = declared t o.0 text p.0 p.1 e ∙ ap (λ q. line_of s ++ q) more.are.is;
      };
    })

pub lines-law : LawOfLines
lines-law t os text slots h =
    let found = behind-all t [] os text slots h in
    record {
      same = ap (map (λ s. s.number)) found.all ∙ found.are.same;
      is = found.are.is ∙ ap (flat_map line_of) (sym found.all);
    }
