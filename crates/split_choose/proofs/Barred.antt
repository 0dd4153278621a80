-- A bundle is in just where no block bars it, by the numbers of borders.
use Rattle.std.proofs.Common.{◌≡◌, ◌∙◌, ◌⊎◌, inl, inr, ℕ, zero, suc, ◌+◌, ◌<◌, ◌≤◌, List, [], ◌∷◌, ◌++◌, Bool, true, false, cond, refl, sym, ap, subst, length, arith, Option, None, Some, option_map}
use Rattle.std.specs.Prelude.{◌||◌, ◌&&◌, not, slice_get, flat_map, find, nat_eq}
use Rattle.std.specs.List.{list_any, list_all}
use Rattle.std.proofs.lemmas.Bool.{cases_eq, eqb-true, eq-eqb, ne_eqb}
use Rattle.target_base.specs.declared.types.Target.{Target}
use Rattle.target_base.specs.declared.types.Reg.{Reg}
use Rattle.meaning.specs.Live.{Among, here, there}
use Rattle.mir_func.specs.declared.func.Block.{Block}
use Rattle.mir_func.specs.Value.{Function}
use Rattle.mir_meaning.specs.Points.{Start, block_points}
use Rattle.live_lanes.specs.Ordered.{place_of}
use Rattle.split_choose.specs.declared.spans.Span.{Span}
use Rattle.split_choose.specs.Bundles.{start_of, end_of, root_of, border_place, same_root, same_border, are_joined, ArePlaced}
use Rattle.split_choose.specs.Regions.{is_bordered, bars, is_out}
use Rattle.split_choose.specs.Offers.{View, Border, In, Out, live_at, borders, is_clear, border_clear, is_in, end_point}
use Rattle.split_choose.proofs.Telling.{IsTold, IsUntold}
use Rattle.split_choose.proofs.Along.{Along, along-any}

-- tests

and-none : (b : Bool) → (b && false) ≡ false
and-none true = refl
and-none false = refl

and-all : (b : Bool) → (b && true) ≡ b
and-all true = refl
and-all false = refl

and-turn : (a b : Bool) → (a && b) ≡ (b && a)
and-turn true b = sym (and-all b)
and-turn false b = sym (and-none b)

not-or-not : (a l c : Bool) → not (not (a && l) || c) ≡ ((a && l) && not c)
not-or-not true true c = refl
not-or-not true false c = refl
not-or-not false l c = refl

not-both : (a b : Bool) → not (a && b) ≡ (not a || not b)
not-both true b = refl
not-both false b = refl

or-assoc : (a b c : Bool) → ((a || b) || c) ≡ (a || (b || c))
or-assoc true b c = refl
or-assoc false b c = refl

-- a block that isn't clear bars what it borders on
barred : (c l e m f : Bool) → (not c && ((l && e) || (m && f))) ≡ (((e && l) && not c) || ((f && m) && not c))
barred true l e m f = sym (ap (λ x. x || ((f && m) && false)) (and-none (e && l)) ∙ and-none (f && m))
barred false l e m f =
    ap (λ x. x || (m && f)) (and-turn l e) ∙ (ap (λ x. (e && l) || x) (and-turn m f)
    ∙ (ap (λ x. x || (f && m)) (sym (and-all (e && l))) ∙ ap (λ x. ((e && l) && true) || x) (sym (and-all (f && m)))))

nat_eq-turn : (a b : ℕ) → nat_eq a b ≡ nat_eq b a
nat_eq-turn a b = go (cases_eq a b)
  where
    go : (a ≡ b) ⊎ (a ≡ b → ⊥) → nat_eq a b ≡ nat_eq b a
    go (inl e) = eq-eqb a b e ∙ sym (eq-eqb b a (sym e))
    go (inr d) = ne_eqb a b d ∙ sym (ne_eqb b a (λ e. d (sym e)))

some-same : {X : Type 0} (x y : X) → Some x ≡ Some y → x ≡ y
some-same x y e = cc

-- some pair fails
not-all-pairs : {X Y : Type 0} (g : Y → Bool) (p q : X → Y) (xs : List X) → not (list_all g (flat_map (λ x. p x ∷ q x ∷ []) xs)) ≡ list_any (λ x. not (g (p x)) || not (g (q x))) xs
not-all-pairs g p q [] = refl
not-all-pairs g p q (x ∷ xs) =
    let rest = list_all g (flat_map (λ y. p y ∷ q y ∷ []) xs) in
    not-both (g (p x)) (g (q x) && rest) ∙ (ap (λ b. not (g (p x)) || b) (not-both (g (q x)) rest)
    ∙ (sym (or-assoc (not (g (p x))) (not (g (q x))) (not rest)) ∙ ap (λ b. (not (g (p x)) || not (g (q x))) || b) (not-all-pairs g p q xs)))

-- the block of a number

place-later : (n : ℕ) (c : Block) (bs : List Block) (k : ℕ) → place_of n (c ∷ bs) ≡ Some (suc k) → place_of n bs ≡ Some k
place-later n c bs k e = go (nat_eq c.number n) (place_of n bs) e
  where
    go : (b : Bool) (o : Option ℕ) → cond b (Some 0) (option_map (λ x. suc x) o) ≡ Some (suc k) → o ≡ Some k
    go true o e = absurd (let z : 0 ≡ suc k = cc in omega arith)
    go false None e = absurd (let z : None ≡ Some (suc k) = e in cc)
    go false (Some m) e = let z : suc m ≡ suc k = cc in let w : m ≡ k = omega arith in ap Some w

place-first : (n : ℕ) (c : Block) (bs : List Block) → place_of n (c ∷ bs) ≡ Some 0 → c.number ≡ n
place-first n c bs e = go (nat_eq c.number n) refl (place_of n bs) e
  where
    go : (b : Bool) → nat_eq c.number n ≡ b → (o : Option ℕ) → cond b (Some 0) (option_map (λ x. suc x) o) ≡ Some 0 → c.number ≡ n
    go true f o e = eqb-true c.number n f
    go false f None e = absurd (let z : None ≡ Some 0 = e in cc)
    go false f (Some m) e = absurd (let z : suc m ≡ 0 = cc in omega arith)

place-other : (n : ℕ) (c : Block) (bs : List Block) (k : ℕ) → place_of n (c ∷ bs) ≡ Some (suc k) → nat_eq c.number n ≡ false
place-other n c bs k e = go (nat_eq c.number n) refl e
  where
    go : (b : Bool) → nat_eq c.number n ≡ b → cond b (Some 0) (option_map (λ x. suc x) (place_of n bs)) ≡ Some (suc k) → nat_eq c.number n ≡ false
    go true f e = absurd (let z : 0 ≡ suc k = cc in omega arith)
    go false f e = f

module _ (test : Block → Bool) where
  only-none : (n : ℕ) (bs : List Block) → ((k : ℕ) (c : Block) → slice_get bs k ≡ Some c → nat_eq c.number n ≡ false) → list_all (λ c. not (nat_eq c.number n) || test c) bs ≡ true
  only-none n [] h = refl
  only-none n (c ∷ bs) h = ap (λ b. (not b || test c) && list_all (λ (d : Block). not (nat_eq d.number n) || test d) bs) (h 0 c refl) ∙ only-none n bs (λ k d e. h (suc k) d e)

  -- the test of all blocks of a number is that of the one
  only-one : (n : ℕ) (bs : List Block) (k : ℕ) (b : Block) → slice_get bs k ≡ Some b → nat_eq b.number n ≡ true → ((j : ℕ) (c : Block) → slice_get bs j ≡ Some c → (j ≡ k → ⊥) → nat_eq c.number n ≡ false)
      → list_all (λ c. not (nat_eq c.number n) || test c) bs ≡ test b
  only-one n [] k b e s h = absurd (cc)
  only-one n (c ∷ bs) zero b e s h =
      let same : c ≡ b = some-same c b e in
      let same-number : nat_eq c.number n ≡ true = (ap (λ (d : Block). nat_eq d.number n) same ∙ s) in
      ap (λ x. (not x || test c) && list_all (λ (d : Block). not (nat_eq d.number n) || test d) bs) same-number
      ∙ (ap (λ x. test c && x) (only-none n bs (λ j d at. h (suc j) d at (λ z. absurd (omega arith)))) ∙ (and-all (test c) ∙ ap test same))
  only-one n (c ∷ bs) (suc k) b e s h =
      ap (λ x. (not x || test c) && list_all (λ (d : Block). not (nat_eq d.number n) || test d) bs) (h 0 c refl (λ z. absurd (omega arith)))
      ∙ only-one n bs k b e s (λ j d at ne. h (suc j) d at (λ z. ne (omega arith)))

find-one : (n : ℕ) (bs : List Block) (k : ℕ) (b : Block) → slice_get bs k ≡ Some b → nat_eq b.number n ≡ true → ((j : ℕ) (c : Block) → slice_get bs j ≡ Some c → (j ≡ k → ⊥) → nat_eq c.number n ≡ false)
    → find (λ c. nat_eq c.number n) bs ≡ Some b
find-one n [] k b e s h = absurd (cc)
find-one n (c ∷ bs) zero b e s h =
    let same : c ≡ b = some-same c b e in
    let same-number : nat_eq c.number n ≡ true = (ap (λ (d : Block). nat_eq d.number n) same ∙ s) in
    ap (λ x. cond x (Some c) (find (λ (d : Block). nat_eq d.number n) bs)) same-number ∙ ap Some same
find-one n (c ∷ bs) (suc k) b e s h =
    ap (λ x. cond x (Some c) (find (λ (d : Block). nat_eq d.number n) bs)) (h 0 c refl (λ z. absurd (omega arith)))
    ∙ find-one n bs k b e s (λ j d at ne. h (suc j) d at (λ z. ne (omega arith)))

-- no other block has the number of this one
pub others : (bs : List Block) → ArePlaced bs → (k : ℕ) (b : Block) → slice_get bs k ≡ Some b → (j : ℕ) (c : Block) → slice_get bs j ≡ Some c → (j ≡ k → ⊥) → nat_eq c.number b.number ≡ false
others bs placed k b at j c got ne = ne_eqb c.number b.number (λ e. ne (some-same j k (sym (placed j c got) ∙ (ap (λ n. place_of n bs) e ∙ placed k b at))))

module _ (t : Target) (f : Function) (v : ℕ) (view : View) (ps : List ℕ) (placed : ArePlaced f.blocks) (one : (x y : Border) → view.one_bundle (x, y) ≡ are_joined f.blocks ps (x, y)) where
  clear-in : (r : Reg) (k : ℕ) (b : Block) → slice_get f.blocks k ≡ Some b → border_clear t f v view r (In b.number) ≡ is_clear t f v view r b
  clear-in r k b at = only-one (is_clear t f v view r) b.number f.blocks k b at (eq-eqb b.number b.number refl) (others f.blocks placed k b at)

  clear-out : (r : Reg) (k : ℕ) (b : Block) → slice_get f.blocks k ≡ Some b → border_clear t f v view r (Out b.number) ≡ is_clear t f v view r b
  clear-out r k b at = only-one (is_clear t f v view r) b.number f.blocks k b at (eq-eqb b.number b.number refl) (others f.blocks placed k b at)

  pub live-out : (k : ℕ) (b : Block) → slice_get f.blocks k ≡ Some b → live_at t f v view (Out b.number) ≡ view.live (end_point b)
  live-out k b at = ap (λ (o : Option Block). elim o [ None ↦ false | Some c ↦ view.live (end_point c) ]) (find-one b.number f.blocks k b at (eq-eqb b.number b.number refl) (others f.blocks placed k b at))

  pub joined-in : (x : Border) (i k : ℕ) (b : Block) → border_place f.blocks x ≡ Some i → slice_get f.blocks k ≡ Some b → view.one_bundle (x, In b.number) ≡ nat_eq (root_of ps (start_of k)) (root_of ps i)
  joined-in x i k b is at =
      one x (In b.number) ∙ (ap (λ (o : Option ℕ). elim o [ None ↦ same_border x (In b.number) | Some j ↦ same_root ps j (border_place f.blocks (In b.number)) ]) is
      ∙ (ap (λ (o : Option ℕ). same_root ps i (option_map start_of o)) (placed k b at) ∙ nat_eq-turn (root_of ps i) (root_of ps (start_of k))))

  pub joined-out : (x : Border) (i k : ℕ) (b : Block) → border_place f.blocks x ≡ Some i → slice_get f.blocks k ≡ Some b → view.one_bundle (x, Out b.number) ≡ nat_eq (root_of ps (end_of k)) (root_of ps i)
  joined-out x i k b is at =
      one x (Out b.number) ∙ (ap (λ (o : Option ℕ). elim o [ None ↦ same_border x (Out b.number) | Some j ↦ same_root ps j (border_place f.blocks (Out b.number)) ]) is
      ∙ (ap (λ (o : Option ℕ). same_root ps i (option_map end_of o)) (placed k b at) ∙ nat_eq-turn (root_of ps i) (root_of ps (end_of k))))

  -- the border of a block doesn't keep the bundle out
  keeps : Reg → Border → Border → Bool
  keeps r x y = not (view.one_bundle (x, y) && live_at t f v view y) || border_clear t f v view r y

  -- the block bars the bundle of the border of that number
  bars-block : Reg → ℕ → ℕ → Block → Bool
  bars-block r i k b =
      ((nat_eq (root_of ps (start_of k)) (root_of ps i) && view.live (Start b.number)) && not (is_clear t f v view r b))
      || ((nat_eq (root_of ps (end_of k)) (root_of ps i) && view.live (end_point b)) && not (is_clear t f v view r b))

  barred-at : (r : Reg) (x : Border) (i k : ℕ) (b : Block) → border_place f.blocks x ≡ Some i → slice_get f.blocks k ≡ Some b → (not (keeps r x (In b.number)) || not (keeps r x (Out b.number))) ≡ bars-block r i k b
  unfolding keeps bars-block
  barred-at r x i k b is at = ap (λ a. a || not (keeps r x (Out b.number))) first ∙ ap (λ a. ((nat_eq (root_of ps (start_of k)) (root_of ps i) && view.live (Start b.number)) && not (is_clear t f v view r b)) || a) second
    where
      first : not (keeps r x (In b.number)) ≡ ((nat_eq (root_of ps (start_of k)) (root_of ps i) && view.live (Start b.number)) && not (is_clear t f v view r b))
      first = not-or-not (view.one_bundle (x, In b.number)) (view.live (Start b.number)) (border_clear t f v view r (In b.number))
          ∙ (ap (λ a. (a && view.live (Start b.number)) && not (border_clear t f v view r (In b.number))) (joined-in x i k b is at)
          ∙ ap (λ a. (nat_eq (root_of ps (start_of k)) (root_of ps i) && view.live (Start b.number)) && not a) (clear-in r k b at))

      second : not (keeps r x (Out b.number)) ≡ ((nat_eq (root_of ps (end_of k)) (root_of ps i) && view.live (end_point b)) && not (is_clear t f v view r b))
      second = not-or-not (view.one_bundle (x, Out b.number)) (live_at t f v view (Out b.number)) (border_clear t f v view r (Out b.number))
          ∙ (ap (λ a. (a && live_at t f v view (Out b.number)) && not (border_clear t f v view r (Out b.number))) (joined-out x i k b is at)
          ∙ (ap (λ a. (nat_eq (root_of ps (end_of k)) (root_of ps i) && a) && not (border_clear t f v view r (Out b.number))) (live-out k b at)
          ∙ ap (λ a. (nat_eq (root_of ps (end_of k)) (root_of ps i) && view.live (end_point b)) && not a) (clear-out r k b at)))

  module _ (freqs : List ℕ) (spans : List Span) (r : Reg) (clear : Span → Bool)
      (cleared : (k : ℕ) (b : Block) (s : Span) → IsTold t f v view freqs spans k b s → clear s ≡ is_clear t f v view r b)
      (all : Along (λ (s : Span). s.position) (IsTold t f v view freqs spans) (IsUntold t f v view) 0 f.blocks spans) where
    told-bars : (x : Border) (i k : ℕ) (b : Block) (s : Span) → border_place f.blocks x ≡ Some i → IsTold t f v view freqs spans k b s → bars ps clear (root_of ps i) s ≡ (not (keeps r x (In b.number)) || not (keeps r x (Out b.number)))
    unfolding bars-block
    told-bars x i k b s is told =
        ap (λ n. not (clear s) && ((s.is_live_in && nat_eq (root_of ps (start_of n)) (root_of ps i)) || (s.is_live_out && nat_eq (root_of ps (end_of n)) (root_of ps i)))) told.position
        ∙ (ap (λ c. not c && ((s.is_live_in && nat_eq (root_of ps (start_of k)) (root_of ps i)) || (s.is_live_out && nat_eq (root_of ps (end_of k)) (root_of ps i)))) (cleared k b s told)
        ∙ (ap (λ l. not (is_clear t f v view r b) && ((l && nat_eq (root_of ps (start_of k)) (root_of ps i)) || (s.is_live_out && nat_eq (root_of ps (end_of k)) (root_of ps i)))) told.live_in
        ∙ (ap (λ l. not (is_clear t f v view r b) && ((view.live (Start b.number) && nat_eq (root_of ps (start_of k)) (root_of ps i)) || (l && nat_eq (root_of ps (end_of k)) (root_of ps i)))) told.live_out
        ∙ (barred (is_clear t f v view r b) (view.live (Start b.number)) (nat_eq (root_of ps (start_of k)) (root_of ps i)) (view.live (end_point b)) (nat_eq (root_of ps (end_of k)) (root_of ps i))
        ∙ sym (barred-at r x i k b is told.at)))))

    untold-bars : (x : Border) (i k : ℕ) (b : Block) → border_place f.blocks x ≡ Some i → IsUntold t f v view k b → (not (keeps r x (In b.number)) || not (keeps r x (Out b.number))) ≡ false
    unfolding bars-block
    untold-bars x i k b is untold =
        let e = nat_eq (root_of ps (start_of k)) (root_of ps i) in
        let g = nat_eq (root_of ps (end_of k)) (root_of ps i) in
        let c = is_clear t f v view r b in
        barred-at r x i k b is untold.at
        ∙ (ap (λ l. ((e && l) && not c) || ((g && view.live (end_point b)) && not c)) untold.live_in
        ∙ (ap (λ l. ((e && false) && not c) || ((g && l) && not c)) untold.live_out
        ∙ (ap (λ l. (l && not c) || ((g && false) && not c)) (and-none e) ∙ ap (λ l. l && not c) (and-none g))))

    pub out-is : (x : Border) (i : ℕ) → border_place f.blocks x ≡ Some i → is_out ps clear spans i ≡ not (is_in t f v view r x)
    unfolding keeps
    out-is x i is =
        along-any (λ (s : Span). s.position) (IsTold t f v view freqs spans) (IsUntold t f v view) (bars ps clear (root_of ps i)) (λ b. not (keeps r x (In b.number)) || not (keeps r x (Out b.number)))
        (λ k b s told. told-bars x i k b s is told) (λ k b untold. untold-bars x i k b is untold) 0 f.blocks spans all
        ∙ sym (not-all-pairs (keeps r x) (λ (b : Block). In b.number) (λ (b : Block). Out b.number) f.blocks)
