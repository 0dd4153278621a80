-- The positions of the blocks of instructions are noted at their ids.
use Rattle.std.proofs.Common.{◌≡◌, ◌<◌, ◌≤◌, ◌+◌, ℕ, zero, suc, Bool, true, false, cond, ◌||◌, length, List, [], ◌∷◌, ◌++◌, ◌⊎◌, take, Option, None, Some, refl, sym, ap, ◌∙◌, subst, inl, inr, arith, add-one, get_or, set, eqb-true, eq-eqb, length-set}
use Rattle.std.specs.Prelude.{slice_get, slice_index, nat_eq, nat_lt}
use Rattle.std.proofs.lemmas.Bool.{ltb-true}
use Rattle.std.proofs.lemmas.List.{get_or-set_same, get_or-set_other}
use Rattle.mir_func.specs.declared.func.Block.{Block}
use Rattle.mir_func.specs.declared.func.Instr.{Instr}
use Rattle.mir_func.specs.Value.{IsFunction, id_total}
use Rattle.mir_meaning.specs.Paths.{has}
use Rattle.live_lanes.specs.Ordered.{times, ids_of, all_ids, AreSingle, AreHomes, Settles}
use Rattle.live_lanes.proofs.Certainty.{lt-cases}
use Rattle.live_lanes.proofs.Flowing.{has-both}
use Rattle.live_lanes.proofs.Ordered.{take-one, put-all, times-both, times-total}

some-inj : {X : Type 0} (x y : X) → Some x ≡ Some y → x ≡ y
some-inj x y e = cc

has-one : (x id : ℕ) → has x (id ∷ []) ≡ true → id ≡ x
has-one x id h = go (nat_eq id x) refl h
  where
    go : (t : Bool) → nat_eq id x ≡ t → cond t true false ≡ true → id ≡ x
    go true e f = eqb-true id x e
    go false e f = absurd (cc)

has-other : (x id : ℕ) → has x (id ∷ []) ≡ false → x ≡ id → ⊥
has-other x id h e = let f : cond (nat_eq id x) true false ≡ true = ap (λ t. cond t true false) (eq-eqb id x (sym e)) in let g : true ≡ false = sym f ∙ h in cc

pub settles-set : (old : List ℕ) (id position : ℕ) → id < length old → Settles old (set old id position) (id ∷ []) position
settles-set old id position within = record {
  here = λ x h r. ap (λ j. get_or (set old id position) j 0) (sym (has-one x id h)) ∙ get_or-set_same old id position 0 within;
  other = λ x h. get_or-set_other old id x position 0 (has-other x id h);
  room = length-set old id position;
}

pub settles-past : (old : List ℕ) (id position : ℕ) → length old ≤ id → Settles old old (id ∷ []) position
settles-past old id position past = record {
  here = λ x h r. absurd (let e = has-one x id h in omega (arith, e, r, past));
  other = λ x h. refl;
  room = refl;
}

no-truth : {A : Type 0} → false ≡ true → A
no-truth e = absurd (cc)

pub settles-none : (old : List ℕ) (position : ℕ) → Settles old old [] position
settles-none old position = record { here = λ x h r. no-truth h; other = λ x h. refl; room = refl }

pub settles-more : (old mid new : List ℕ) (is : List Instr) (k : ℕ) (d : Instr) (position : ℕ) → k < length is → d ≡ get_or is k d → Settles old mid (ids_of (take k is)) position → Settles mid new (d.id ∷ []) position → Settles old new (ids_of (take (k + 1) is)) position
settles-more old mid new is k d position h own so step = record {
  here = λ x f r. here x r (has x (ids_of (take k is))) refl (has x (d.id ∷ [])) refl (sym (split x) ∙ f);
  other = λ x f. other x (has x (ids_of (take k is))) refl (has x (d.id ∷ [])) refl (sym (split x) ∙ f);
  room = step.room ∙ so.room;
}
  where
    ids-more : ids_of (take (k + 1) is) ≡ ids_of (take k is) ++ d.id ∷ []
    ids-more = ap (λ n. ids_of (take n is)) (add-one k) ∙ take-one is k d h ∙ ap (λ (i : Instr). ids_of (take k is) ++ i.id ∷ []) (sym own)

    split : (x : ℕ) → has x (ids_of (take (k + 1) is)) ≡ has x (ids_of (take k is)) || has x (d.id ∷ [])
    split x = ap (has x) ids-more ∙ has-both x (ids_of (take k is)) (d.id ∷ [])

    here : (x : ℕ) → x < length old → (t : Bool) → has x (ids_of (take k is)) ≡ t → (u : Bool) → has x (d.id ∷ []) ≡ u → has x (ids_of (take k is)) || has x (d.id ∷ []) ≡ true → slice_index new x ≡ position
    here x r t e true f g = step.here x f (let n = so.room in omega (arith, r, n))
    here x r true e false f g = step.other x f ∙ so.here x e r
    here x r false e false f g = absurd (let z : false ≡ true = sym (ap (λ v. v || has x (d.id ∷ [])) e ∙ f) ∙ g in cc)

    other : (x : ℕ) (t : Bool) → has x (ids_of (take k is)) ≡ t → (u : Bool) → has x (d.id ∷ []) ≡ u → has x (ids_of (take k is)) || has x (d.id ∷ []) ≡ false → slice_index new x ≡ slice_index old x
    other x true e u f g = absurd (let z : true ≡ false = sym (ap (λ v. v || has x (d.id ∷ [])) e) ∙ g in cc)
    other x false e true f g = absurd (let z : true ≡ false = sym (ap (λ v. v || has x (d.id ∷ [])) e ∙ f) ∙ g in cc)
    other x false e false f g = step.other x f ∙ so.other x e

pub settles-whole : (old new : List ℕ) (is : List Instr) (k position : ℕ) → length is ≤ k → Settles old new (ids_of (take k is)) position → Settles old new (ids_of is) position
settles-whole old new is k position h so = subst (λ xs. Settles old new xs position) (put-all [] is k h) so

-- of blocks up to a position
pub record SomeHomes (bs : List Block) (homes : List ℕ) (k room : ℕ) : Type 0 where
  pub here : (j : ℕ) (b : Block) (id : ℕ) → j < k → slice_get bs j ≡ Some b → has id (ids_of b.instrs) ≡ true → id < length homes → slice_index homes id ≡ j
  pub long : length homes ≡ room

pub homes-none : (bs : List Block) (homes : List ℕ) (room : ℕ) → length homes ≡ room → SomeHomes bs homes 0 room
homes-none bs homes room e = record { here = λ j b id h. absurd (omega arith); long = e }

has-times : (x : ℕ) (xs : List ℕ) → has x xs ≡ true → 1 ≤ times x xs
has-times x [] h = no-truth h
has-times x (y ∷ xs) h = go (nat_eq y x) h (has-times x xs)
  where
    go : (t : Bool) → cond t true (has x xs) ≡ true → (has x xs ≡ true → 1 ≤ times x xs) → 1 ≤ cond t (suc (times x xs)) (times x xs)
    go true f ih = omega arith
    go false f ih = ih f

once-there : (bs : List Block) (k : ℕ) (b : Block) (id : ℕ) → slice_get bs k ≡ Some b → has id (ids_of b.instrs) ≡ true → 1 ≤ times id (all_ids bs)
once-there [] k b id e h = absurd (cc)
once-there (c ∷ bs) zero b id e h =
    let one = has-times id (ids_of c.instrs) (subst (λ (x : Block). has id (ids_of x.instrs) ≡ true) (sym (some-inj c b e)) h) in
    omega (arith, one, times-both id (ids_of c.instrs) (all_ids bs))
once-there (c ∷ bs) (suc k) b id e h = omega (arith, once-there bs k b id e h, times-both id (ids_of c.instrs) (all_ids bs))

twice-there : (bs : List Block) (j k : ℕ) (c b : Block) (id : ℕ) → j < k → slice_get bs j ≡ Some c → slice_get bs k ≡ Some b → has id (ids_of c.instrs) ≡ true → has id (ids_of b.instrs) ≡ true → 2 ≤ times id (all_ids bs)
twice-there [] j k c b id l e f g h = absurd (cc)
twice-there (a ∷ bs) j zero c b id l e f g h = absurd (omega arith)
twice-there (a ∷ bs) zero (suc k) c b id l e f g h =
    let one = has-times id (ids_of a.instrs) (subst (λ (x : Block). has id (ids_of x.instrs) ≡ true) (sym (some-inj a c e)) g) in
    omega (arith, one, once-there bs k b id f h, times-both id (ids_of a.instrs) (all_ids bs))
twice-there (a ∷ bs) (suc j) (suc k) c b id l e f g h = omega (arith, twice-there bs j k c b id (omega arith) e f g h, times-both id (ids_of a.instrs) (all_ids bs))

get-there : (bs : List Block) (k : ℕ) (b : Block) → k < length bs → b ≡ get_or bs k b → slice_get bs k ≡ Some b
get-there [] k b h e = absurd (omega arith)
get-there (c ∷ bs) zero b h e = ap Some (sym e)
get-there (c ∷ bs) (suc k) b h e = get-there bs k b (omega arith) e

pub homes-more : (bs : List Block) (mid new : List ℕ) (k : ℕ) (b : Block) (room : ℕ) → AreSingle (all_ids bs) → k < length bs → b ≡ get_or bs k b → SomeHomes bs mid k room → Settles mid new (ids_of b.instrs) k → SomeHomes bs new (k + 1) room
homes-more bs mid new k b room single h own so step = record {
  here = λ j c id l e i r. go j c id e i (let n = step.room in omega (arith, r, n)) (lt-cases j k l);
  long = step.room ∙ so.long;
}
  where
    there : slice_get bs k ≡ Some b
    there = get-there bs k b h own

    go : (j : ℕ) (c : Block) (id : ℕ) → slice_get bs j ≡ Some c → has id (ids_of c.instrs) ≡ true → id < length mid → (j < k) ⊎ (j ≡ k) → slice_index new id ≡ j
    go j c id e i r (inr f) =
        let same : c ≡ b = some-inj c b (sym e ∙ ap (slice_get bs) f ∙ there) in
        step.here id (ap (λ (x : Block). has id (ids_of x.instrs)) (sym same) ∙ i) r ∙ sym f
    go j c id e i r (inl l) = apart (has id (ids_of b.instrs)) refl
      where
        apart : (t : Bool) → has id (ids_of b.instrs) ≡ t → slice_index new id ≡ j
        apart true f = absurd (omega (arith, single id, twice-there bs j k c b id l e there i f))
        apart false f = step.other id f ∙ so.here j c id l e i r

within : (bs : List Block) (k : ℕ) (b : Block) → slice_get bs k ≡ Some b → k < length bs
within [] k b e = absurd (cc)
within (c ∷ bs) zero b e = omega arith
within (c ∷ bs) (suc k) b e = let h = within bs k b e in omega (arith, h)

pub homes-all : (bs : List Block) (homes : List ℕ) (k room : ℕ) → length bs ≤ k → SomeHomes bs homes k room → IsFunction bs room → AreHomes bs homes
homes-all bs homes k room h so f j b id e i = so.here j b id (let w = within bs j b e in omega (arith, w, h)) e i (let n = so.long in let l = low in omega (arith, n, l))
  where
    go : (t : Bool) → nat_lt id room ≡ t → id_total id bs ≤ cond t 1 0 → id < room
    go true g w = ltb-true id room g
    go false g w = absurd (omega (arith, w, times-total id bs, once-there bs j b id e i))

    low : id < room
    low = go (nat_lt id room) refl (f.once id)

-- ids are below the number of the next one
pub ids-below : (bs : List Block) (room top : ℕ) → IsFunction bs room → room < top → (id : ℕ) → has id (all_ids bs) ≡ true → id < top
ids-below bs room top f short id h = go (nat_lt id room) refl (f.once id)
  where
    go : (t : Bool) → nat_lt id room ≡ t → id_total id bs ≤ cond t 1 0 → id < top
    go true g w = let l = ltb-true id room g in omega (arith, l, short)
    go false g w = absurd (omega (arith, w, times-total id bs, has-times id (all_ids bs) h))
