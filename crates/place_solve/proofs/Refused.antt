-- The first instruction at whose places the search finds no choice has the name of the first place that admits none.
use Rattle.std.proofs.Common.{◌≡◌, ◌∙◌, ◌<◌, ◌≤◌, ℕ, Bool, true, false, cond, List, [], ◌∷◌, Option, Some, None, ◌++◌, refl, sym, subst, length, drop, take, inl, inr, Bor, arith}
use Rattle.std.specs.Prelude.{◌&&◌, if◌then◌else◌, nat_lt, slice_get}
use Rattle.std.specs.List.{list_all, list_any}
use Rattle.std.proofs.lemmas.Option.{slice_get_cases, slice_get_within}
use Rattle.target_base.specs.declared.types.Target.{Target}
use Rattle.target_base.proofs.Tests.{first_of_both, second_of_both}
use Rattle.meaning.specs.Live.{Among as Member, here as first, there as later}
use Rattle.mir_func.specs.declared.func.Block.{Block}
use Rattle.mir_func.specs.declared.func.Instr.{Instr}
use Rattle.mir_func.specs.declared.func.Place.{Place}
use Rattle.mir_func.specs.Value.{Function, id_total}
use Rattle.mir_meaning.specs.declared.Form.TheVariants as forms
use Rattle.mir_func.specs.Binding.{does, is_terminator, is_lowered_away}
use Rattle.mir_meaning.specs.Valid.{IsValid}
use Rattle.mir_meaning.specs.Places.{Needs, Admits, FirstPlace, PlacesServe, StandsAt, instr_place, lowering_places, own_places, place_of, places_at}
use Rattle.instr_effects.proofs.Members.{member-none, member-elim, either-elim, left-in, right-in}
use Rattle.live_laws.specs.Effects.Shaped.{AreClasses}
use Rattle.live_laws.proofs.Effects.Lists.{all-of}
use Rattle.live_laws.proofs.Effects.Valid.{valid-law, ends}
use Rattle.live_lanes.specs.declared.table.Table.{Table}
use Rattle.live_lanes.specs.Doing.{IsComputed}
use Rattle.live_lanes.specs.Looks.{InOrder}
use Rattle.place_solve.specs.Own.{HasFew, own_instrs}
use Rattle.place_solve.specs.Told.{AllAdmit, AllServe, IsLost, IsRefused, IsSource, LostAt, OwnPlacesServe, copies_solved, copy_solved, own_solved}
use Rattle.place_solve.proofs.Lowered.{lowered-law}
use Rattle.place_solve.proofs.Owns.{own-law}
use Rattle.place_solve.proofs.Told.{same_value, tells}

abbrev borrowed : {X : Type 0} → Bor X → List Instr → Bor (List Instr)
borrowed sample is = record { ref_ptr = sample.ref_ptr; now = is }

-- one of those that fail a test which not all pass
lost-of : {X : Type 0} (p : X → Bool) (xs : List X) → list_all p xs ≡ false → (x : X) × Member x xs × (p x ≡ false)
lost-of p [] e = absurd (cc)
lost-of {X} p (x ∷ xs) e = go (p x) refl e (lost-of p xs)
  where
    go : (b : Bool) → p x ≡ b → (b && list_all p xs) ≡ false → (list_all p xs ≡ false → (y : X) × Member y xs × (p y ≡ false)) → (y : X) × Member y (x ∷ xs) × (p y ≡ false)
    go true g h ih = let z = ih h in (z.0, later z.1, z.2)
    go false g h ih = (x, first, g)

module _ (t : Target) (f : Function) where
  -- one of these places admits no choice
  abbrev LostIn : List Needs → Type 0
  LostIn ps = (p : Needs) × Member p ps × (Admits t f p → ⊥)

  all-one : (p : Needs) → Admits t f p → (q : Needs) → Member q (p ∷ []) → Admits t f q
  all-one p a q m = member-elim q p [] (λ e. subst (Admits t f) (sym e) a) (λ n. absurd (member-none q n)) m

  -- where an own place is there and not all own places admit, it doesn't
  lost-own : (a b c : Bool) (p r : Needs) → (((q : Needs) → Member q (cond a (cond b [] (p ∷ [])) (cond c [] (r ∷ []))) → Admits t f q) → ⊥) → LostIn (cond a (cond b [] (p ∷ [])) (cond c [] (r ∷ [])))
  lost-own true true c p r h = absurd (h (λ q m. absurd (member-none q m)))
  lost-own true false c p r h = (p, first, λ a. h (all-one p a))
  lost-own false b true p r h = absurd (h (λ q m. absurd (member-none q m)))
  lost-own false b false p r h = (r, first, λ a. h (all-one r a))

  pub own_of_all : AllAdmit t f → OwnPlacesServe t f
  unfolding places_at
  own_of_all all k j b i e g p m = all k j p (record { block = b; instr = i; is_block = e; is_instr = g; is_place = left-in p (own_places t f b j i) (lowering_places t f i) m })

  pub serve_of_all : HasFew t f → AllAdmit t f → PlacesServe t f
  serve_of_all few all k j p s = (few k j p s, all k j p s)

  module _ (x : Table) (computed : IsComputed t f x) (source : IsSource t f) where
    module _ (k j : ℕ) (b : Block) (i : Instr) (e : slice_get f.blocks k ≡ Some b) (g : slice_get b.instrs j ≡ Some i) (w : Bor (List Instr)) (same : w.now ≡ own_instrs t b.instrs j) where
      served : true ≡ (own_solved t f x w && copies_solved t f x i) → (p : Needs) → Member p (places_at t f b j i) → Admits t f p
      unfolding places_at
      served h p m =
          either-elim p (own_places t f b j i) (lowering_places t f i)
          ((own-law t f x computed source k j b i e g w same).0 (first_of_both (own_solved t f x w) (copies_solved t f x i) (sym h)) p)
          (λ n. (lowered-law t f x computed source k j b i e g p n).0 (all-of (copy_solved t x) p (lowering_places t f i) n (second_of_both (own_solved t f x w) (copies_solved t f x i) (sym h)))) m

      lost : false ≡ (own_solved t f x w && copies_solved t f x i) → LostIn (places_at t f b j i)
      unfolding places_at
      lost h = go (own_solved t f x w) refl (sym h)
        where
          not-copied : (p : Needs) → Member p (lowering_places t f i) → copy_solved t x p ≡ false → Admits t f p → ⊥
          not-copied p m n a = let y : false ≡ true = sym n ∙ (lowered-law t f x computed source k j b i e g p m).1 a in cc

          not-own : own_solved t f x w ≡ false → ((q : Needs) → Member q (own_places t f b j i) → Admits t f q) → ⊥
          not-own n a = let y : false ≡ true = sym n ∙ (own-law t f x computed source k j b i e g w same).1 a in cc

          go : (q : Bool) → own_solved t f x w ≡ q → (q && copies_solved t f x i) ≡ false → LostIn (own_places t f b j i ++ lowering_places t f i)
          go true o c =
              let z = lost-of (copy_solved t x) (lowering_places t f i) c in
              (z.0, right-in z.0 (own_places t f b j i) (lowering_places t f i) z.1, not-copied z.0 z.1 z.2)
          go false o c =
              let z = lost-own (does is_terminator t i) (list_any (does is_terminator t) (take j b.instrs)) (does is_lowered_away t i) (place_of t f (drop j b.instrs)) (instr_place t f i) (not-own o) in
              (z.0, left-in z.0 (own_places t f b j i) (lowering_places t f i) z.1, z.2)

    module _ {X : Type 0} (sample : Bor X) where
      -- where the search finds choices for the first n instructions of a block, their places admit them
      serving : (b : Block) (n l j : ℕ) (q : Needs) → AllServe t f x b.instrs n → (s : StandsAt t f l j q) → s.block ≡ b → j < n → Admits t f q
      serving b n l j q all s same less =
          let w = borrowed sample (own_instrs t s.block.instrs j) in
          let here : AllServe t f x s.block.instrs n = subst (λ (c : Block). AllServe t f x c.instrs n) (sym same) all in
          served l j s.block s.instr s.is_block s.is_instr w refl (here j less w s.instr refl s.is_instr) q s.is_place

      serving-all : (b : Block) (l j : ℕ) (q : Needs) → AllServe t f x b.instrs (length b.instrs) → (s : StandsAt t f l j q) → s.block ≡ b → Admits t f q
      serving-all b l j q all s same =
          let within = slice_get_within s.block.instrs j s.instr s.is_instr in
          serving b (length b.instrs) l j q all s same (subst (λ (c : Block). j < length c.instrs) same within)

      same-block : (k : ℕ) (b c : Block) → slice_get f.blocks k ≡ Some b → slice_get f.blocks k ≡ Some c → c ≡ b
      same-block k b c e g = same_value c b (sym g ∙ e)

      -- the first instruction that is lost
      refused-at : (name : Place) (z : LostAt t f x f.blocks name) (i : Instr) → slice_get z.block.instrs name.at ≡ Some i → FirstPlace t f (λ q. Admits t f q → ⊥) name
      refused-at name z i g =
          let w = borrowed sample (own_instrs t z.block.instrs name.at) in
          let p = lost z.position name.at z.block i z.is_block g w refl (z.lost.1 w i refl g) in
          record {
            k = z.position;
            place = p.0;
            stands = record { block = z.block; instr = i; is_block = z.is_block; is_instr = g; is_place = p.1 };
            is_block = z.number;
            holds = p.2;
            first = λ l j q s e m. elim e [
              | inl h ↦ m (serving-all s.block l j q (z.before l s.block h s.is_block) s refl)
              | inr h ↦ m (serving z.block name.at l j q z.lost.2 s (same-block z.position z.block s.block z.is_block (subst (λ (n : ℕ). slice_get f.blocks n ≡ Some s.block) h.0 s.is_block)) h.1)
            ];
          }

      pub refused : (o : Option Place) → IsLost t f x f.blocks o → IsRefused t f o
      refused None h = λ k j p s. serving-all s.block k j p (h k s.block (slice_get_within f.blocks k s.block s.is_block) s.is_block) s refl
      refused (Some name) z = elim (slice_get_cases z.block.instrs name.at).1 [
        | inl y ↦ refused-at name z y.0 y.2
        | inr y ↦ absurd (let h = z.lost.0 in omega (arith, h, y.0))
      ]

one_at_most : (b : Bool) (n : ℕ) → n ≤ (if b then 1 else 0) → n ≤ 1
one_at_most true n h = h
one_at_most false n h = omega (arith, h)

-- the same of the copy that is searched
pub refused_final : {X : Type 0} (sample : Bor X) (t t2 : Target) (f copy f2 : Function) (x : Table) (bs : List Block) (next : ℕ) (o : Option Place) → t2 ≡ t → f2 ≡ copy → copy ≡ f → IsComputed t copy x → bs ≡ f.blocks → ((id : ℕ) → id_total id bs ≤ (if nat_lt id next then 1 else 0)) → (InOrder x → IsLost t2 f2 x f.blocks o) → AreClasses t f → IsValid t forms.Source f → IsRefused t f o
refused_final sample t t2 f copy f2 x bs next o et ef ec computed inside once lost classes valid =
    let here : IsComputed t f x = subst (λ g. IsComputed t g x) ec computed in
    let source : IsSource t f = record { valid = valid.shape; classes = classes; once = λ id. one_at_most (nat_lt id next) (id_total id f.blocks) (subst (λ cs. id_total id cs ≤ (if nat_lt id next then 1 else 0)) inside (once id)) } in
    let ordered = (tells t f x here (valid-law t forms.Source f valid.shape classes) (ends t forms.Source f valid.shape)).ordered in
    let told : IsLost t f x f.blocks o = subst (λ g. IsLost t g x f.blocks o) (ef ∙ ec) (subst (λ s. IsLost s f2 x f.blocks o) et (lost ordered)) in
    refused t f x here source sample o told

-- what is said of a function under a target is said of its like
pub moved : (P : Target → Function → Type 0) (t t2 : Target) (f f2 : Function) → t ≡ t2 → f ≡ f2 → P t f → P t2 f2
moved P t t2 f f2 et ef p = subst (P t2) ef (subst (λ s. P s f) et p)
