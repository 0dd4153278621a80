-- A lane that an instruction doesn't name passes through it.
use Rattle.std.proofs.Common.{◌≡◌, ◌⊎◌, ◌∷◌, ◌++◌, ℕ, Bool, true, false, cond, List, [], refl, sym, ap, ◌∙◌, subst, inl, inr, map}
use Rattle.std.specs.Prelude.{nat_eq, ◌↔◌}
use Rattle.std.proofs.lemmas.Bool.{eqb-true}
use Rattle.target_base.specs.declared.types.Target.{Target}
use Rattle.meaning.specs.declared.types.Lane.{Lane}
use Rattle.meaning.specs.declared.types.Lane.TheVariants.{SlotLane}
use Rattle.meaning.specs.Code.{Code, Edge, Item}
use Rattle.meaning.specs.Live.{Among, here, there, exits_of, writes_of, Feeds, Live, read, next, leap, phi, store, kept, LiveAfter, after_next, after_leap, after_phi, Writing, WritingEarly, OccupiedBefore, OccupiedAfter}
use Rattle.mir_func.specs.declared.func.Block.{Block}
use Rattle.mir_func.specs.declared.func.Instr.{Instr}
use Rattle.mir_func.specs.Value.{Function}
use Rattle.mir_meaning.specs.Codes.{block_end, blocks_code, ways_out}
use Rattle.mir_meaning.specs.Registers.{is_reserved}
use Rattle.mir_meaning.specs.Points.{AtFirst, from_instr, point_item, points_of}
use Rattle.laws.proofs.Flow.{none_among}
use Rattle.edit_laws.specs.Named.{Copies, Names, reads, copies, writes}
use Rattle.edit_laws.specs.Edits.{Stands, IsPlain}
use Rattle.edit_laws.specs.Laws.{PassingLaw}
use Rattle.edit_laws.proofs.Beside.{feeds-case, kept-copy, kept-or-written, stored}
use Rattle.edit_laws.proofs.Shell.{exits-are}
use Rattle.edit_laws.proofs.Aligned.{rest_from, rest-is}

module _ (reserved : Lane → Bool) (code : Code) where
  no-way : (i : Item) (e : Edge) → exits_of i ≡ [] → Among e (exits_of i) → ⊥
  no-way i e exits m = none_among e (subst (Among e) exits m)

  passes-on : (i : Item) (p : Code) (l : Lane) → exits_of i ≡ [] → (Names i l → ⊥) → Live reserved code (i ∷ p) l → LiveAfter reserved code i p l
  passes-on i p l exits unnamed (read {ss = ss} m s free) = absurd (unnamed (reads ss m s))
  passes-on i p l exits unnamed (next {a = a} o h f free) = go (feeds-case i l a f)
    where
      go : (l ≡ a) ⊎ Copies i l a → LiveAfter reserved code i p l
      go (inl e) = after_next o (subst (Live reserved code p) (sym e) h)
      go (inr m) = absurd (unnamed (copies a m))
  passes-on i p l exits unnamed (leap {e = e} m h g f free) = absurd (no-way i e exits m)
  passes-on i p l exits unnamed (phi {e = e} m n g f free) = absurd (no-way i e exits m)
  passes-on i p l exits unnamed (store w {s = s} {k = k} o h f ns free) = absurd (unnamed (copies (SlotLane s k w) (stored i l s k w ns f)))
  passes-on i p l exits unnamed (kept {a = a} u f free) = absurd (unnamed (copies a (kept-copy reserved i l a free u f)))

  -- what is live takes part
  takes-part : {p : Code} {l : Lane} → Live reserved code p l → reserved l ≡ false
  takes-part (read m s free) = free
  takes-part (next o h f free) = free
  takes-part (leap m h g f free) = free
  takes-part (phi m n g f free) = free
  takes-part (store w o h f ns free) = free
  takes-part (kept u f free) = free

  passes-back : (i : Item) (p : Code) (l : Lane) → exits_of i ≡ [] → (Names i l → ⊥) → LiveAfter reserved code i p l → Live reserved code (i ∷ p) l
  passes-back i p l exits unnamed (after_next o h) = go (kept-or-written (writes_of i) l)
    where
      go : Feeds i l l ⊎ Writing i l → Live reserved code (i ∷ p) l
      go (inl f) = next o h f (takes-part h)
      go (inr w) = absurd (unnamed (writes w))
  passes-back i p l exits unnamed (after_leap {e = e} m h g) = absurd (no-way i e exits m)
  passes-back i p l exits unnamed (after_phi {e = e} m n g) = absurd (no-way i e exits m)

  module _ (l : Lane) where
    -- the place is nowhere, or an item that doesn't name the lane stands there
    pub data Unnamed : Code → Type 0 where
      nowhere : Unnamed []
      somewhere : {i : Item} {p : Code} → exits_of i ≡ [] → (Names i l → ⊥) → Unnamed (i ∷ p)

    pub unnamed-live : {p : Code} → Unnamed p → Live reserved code p l ↔ AtFirst (λ i q. LiveAfter reserved code i q l) p
    unnamed-live nowhere = ((λ h. elim h [ ]), (λ h. absurd h))
    unnamed-live (somewhere {i = i} {p = p} exits unnamed) = (passes-on i p l exits unnamed, passes-back i p l exits unnamed)

    pub unnamed-occupied : {p : Code} → Unnamed p → AtFirst (λ i q. OccupiedBefore reserved code i q l) p ↔ AtFirst (λ i q. OccupiedAfter reserved code i q l) p
    unnamed-occupied nowhere = ((λ h. absurd h), (λ h. absurd h))
    unnamed-occupied (somewhere {i = i} {p = p} exits unnamed) = ((λ h. (forth h.0, h.1)), (λ h. (back h.0, h.1)))
      where
        forth : Live reserved code (i ∷ p) l ⊎ WritingEarly i l → LiveAfter reserved code i p l ⊎ Writing i l
        forth (inl h) = inl (passes-on i p l exits unnamed h)
        forth (inr w) = absurd (unnamed (writes (w.0, w.1, w.2)))

        back : LiveAfter reserved code i p l ⊎ Writing i l → Live reserved code (i ∷ p) l ⊎ WritingEarly i l
        back (inl h) = inl (passes-back i p l exits unnamed h)
        back (inr w) = absurd (unnamed (writes w))

module _ (t : Target) (f : Function) (id : ℕ) (l : Lane) (plain : (b : Block) (i : Instr) → Stands f id b i → IsPlain t i × (Names (point_item t f b i) l → ⊥)) where
  abbrev Passed : Code → Type 0
  Passed p = Unnamed (is_reserved t) (points_of t f) l p

  rest-unnamed : (b : Block) (is : List Instr) (p other : Code) → Among b f.blocks → ((i : Instr) → Among i is → Among i b.instrs) → Passed other → Passed (rest_from (point_item t f b) id is p other)
  rest-unnamed b [] p other m sub u = u
  rest-unnamed b (i ∷ is) p other m sub u = go (nat_eq i.id id) refl (rest-unnamed b is p other m (λ x n. sub x (there n)) u)
    where
      go : (v : Bool) → nat_eq i.id id ≡ v → Passed (rest_from (point_item t f b) id is p other) → Passed (cond v (map (point_item t f b) (i ∷ is) ++ p) (rest_from (point_item t f b) id is p other))
      go true e ih =
          let z = plain b i (record { block = m; instr = sub i here; named = eqb-true i.id id e }) in
          somewhere (exits-are t f b i ∙ ap (λ w. cond w (ways_out t f b) []) z.0.1) z.1
      go false e ih = ih

  from-unnamed : (bs : List Block) → ((b : Block) → Among b bs → Among b f.blocks) → Passed (from_instr t f id bs)
  from-unnamed [] sub = nowhere
  from-unnamed (b ∷ bs) sub =
      subst Passed (sym (rest-is (point_item t f b) id b.instrs (block_end t f b bs ∷ blocks_code (point_item t f) t f bs) (from_instr t f id bs)))
      (rest-unnamed b b.instrs (block_end t f b bs ∷ blocks_code (point_item t f) t f bs) (from_instr t f id bs) (sub b here) (λ i n. n) (from-unnamed bs (λ d n. sub d (there n))))

pub passing-law : PassingLaw
passing-law t f id l plain =
    let u = from-unnamed t f id l plain f.blocks (λ b m. m) in
    (unnamed-live (is_reserved t) (points_of t f) l u, unnamed-occupied (is_reserved t) (points_of t f) l u)
