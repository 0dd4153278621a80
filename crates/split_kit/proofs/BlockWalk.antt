-- Going through the blocks in which instructions and marks stand meets each of them, and leaves out only blocks with neither.
use Rattle.std.proofs.Common.{◌≡◌, ◌∷◌, ◌++◌, ◌∙◌, ◌+◌, ◌<◌, ◌≤◌, ◌⊎◌, inl, inr, not, ℕ, suc, Bool, true, false, cond, List, [], Option, Some, None, length, take, drop, refl, sym, ap, subst, arith, eq-eqb, eqb-true, length-drop}
use Rattle.std.specs.Prelude.{flat_map, min, nat_eq, slice_get}
use Rattle.std.proofs.Math.Dec.{leb}
use Rattle.std.proofs.lemmas.Bool.{leb-true, leb-false}
use Rattle.std.proofs.Math.Seq.{take-append_seam, drop-append_seam}
use Rattle.std.proofs.lemmas.Option.{same_Some}
use Rattle.meaning.specs.Live.{Among, here, there}
use Rattle.mir_func.specs.declared.func.Block.{Block}
use Rattle.edit_laws.specs.Edits.{Edit}
use Rattle.split_kit.specs.BlockWalk.{earlier, first_home, how_many, is_elsewhere}

-- things by the blocks in which they stand, from the block at a position on
abbrev pub AreLaid : {X : Type 0} → (X → Option ℕ) → (Block → List X) → ℕ → List Block → Type 0
AreLaid home own p [] = Unit {0}
AreLaid {X} home own p (b ∷ bs) = ((x : X) → Among x (own b) → home x ≡ Some p) × AreLaid home own (suc p) bs

-- there is a position, and it isn't before that one
abbrev pub AtLeast : ℕ → Option ℕ → Type 0
AtLeast p None = Unit {0}
AtLeast p (Some q) = p ≤ q

at-least-suc : (p : ℕ) (a : Option ℕ) → AtLeast (suc p) a → AtLeast p a
at-least-suc p None h = tt
at-least-suc p (Some q) h = omega (arith, h)

module _ {X : Type 0} (home : X → Option ℕ) where
  first-from : (own : Block → List X) (p : ℕ) (bs : List Block) → AreLaid home own p bs → AtLeast p (first_home home (flat_map own bs))
  first-from own p [] laid = tt
  first-from own p (b ∷ bs) laid = go (own b) laid.0 (at-least-suc p (first_home home (flat_map own bs)) (first-from own (suc p) bs laid.1))
    where
      go : (xs : List X) → ((x : X) → Among x xs → home x ≡ Some p) → AtLeast p (first_home home (flat_map own bs)) → AtLeast p (first_home home (xs ++ flat_map own bs))
      go [] h later = later
      go (x ∷ xs) h later = subst (AtLeast p) (sym (h x here)) (omega arith)

  elsewhere : (p : ℕ) (a : Option ℕ) → AtLeast (suc p) a → is_elsewhere p a ≡ true
  elsewhere p None h = refl
  elsewhere p (Some q) h = go (nat_eq q p) refl
    where
      go : (u : Bool) → nat_eq q p ≡ u → not u ≡ true
      go true e = absurd (let z : q ≡ p = eqb-true q p e in omega (arith, h, z))
      go false e = refl

  as-many : (p : ℕ) (xs rest : List X) → ((x : X) → Among x xs → home x ≡ Some p) → AtLeast (suc p) (first_home home rest) → how_many home p (xs ++ rest) ≡ length xs
  as-many p [] [] h later = refl
  as-many p [] (r ∷ rest) h later = ap (λ u. cond (not u) (1 + how_many home p rest) 0) (elsewhere p (home r) later)
  as-many p (x ∷ xs) rest h later =
      ap (λ a. cond (not (is_elsewhere p a)) (1 + how_many home p (xs ++ rest)) 0) (h x here)
      ∙ (ap (λ u. cond (not (not u)) (1 + how_many home p (xs ++ rest)) 0) (eq-eqb p p refl)
      ∙ (ap (λ k. 1 + k) (as-many p xs rest (λ y a. h y (there a)) later) ∙ omega arith))

  -- the things of the block come first, and those of later blocks are behind them
  record IsCut (p : ℕ) (xs rest : List X) : Type 0 where
    pub first : take (how_many home p (xs ++ rest)) (xs ++ rest) ≡ xs
    pub behind : drop (how_many home p (xs ++ rest)) (xs ++ rest) ≡ rest

  cuts : (p : ℕ) (xs rest : List X) → ((x : X) → Among x xs → home x ≡ Some p) → AtLeast (suc p) (first_home home rest) → IsCut p xs rest
  cuts p xs rest h later = record {
    first = ap (λ n. take n (xs ++ rest)) (as-many p xs rest h later) ∙ take-append_seam xs rest;
    behind = ap (λ n. drop n (xs ++ rest)) (as-many p xs rest h later) ∙ drop-append_seam xs rest;
  }

  -- where the first of them stands at a position, some are met there
  fewer : (q : ℕ) (xs : List X) → first_home home xs ≡ Some q → length (drop (how_many home q xs) xs) < length xs
  fewer q [] e = absurd (cc)
  fewer q (x ∷ xs) e =
      let some : how_many home q (x ∷ xs) ≡ 1 + how_many home q xs =
      ap (λ a. cond (not (is_elsewhere q a)) (1 + how_many home q xs) 0) e ∙ ap (λ u. cond (not (not u)) (1 + how_many home q xs) 0) (eq-eqb q q refl) in
      omega (arith, length-drop (how_many home q (x ∷ xs)) (x ∷ xs), some)

  no-more : (q : ℕ) (xs : List X) → length (drop (how_many home q xs) xs) ≤ length xs
  no-more q xs = omega (arith, length-drop (how_many home q xs) xs)

one-of : (a b : Option ℕ) (q : ℕ) → earlier a b ≡ Some q → (a ≡ Some q) ⊎ (b ≡ Some q)
one-of None b q e = inr e
one-of (Some p) None q e = inl e
one-of (Some p) (Some r) q e = go (same_Some (min p r) q e) (leb p r) refl
  where
    go : min p r ≡ q → (u : Bool) → leb p r ≡ u → (Some p ≡ Some q) ⊎ (Some r ≡ Some q)
    go h true e = inl (ap Some (let z : p ≤ r = leb-true p r e in omega (arith, h, z)))
    go h false e = inr (ap Some (let z : r < p = leb-false p r e in omega (arith, h, z)))

-- so fewer of both are left
pub smaller : {X Y : Type 0} (home : X → Option ℕ) (place : Y → Option ℕ) (q : ℕ) (xs xs' : List X) (ys ys' : List Y) → earlier (first_home home xs) (first_home place ys) ≡ Some q
    → xs' ≡ drop (how_many home q xs) xs → ys' ≡ drop (how_many place q ys) ys → length xs' + length ys' < length xs + length ys
smaller home place q xs xs' ys ys' e f g = go (one-of (first_home home xs) (first_home place ys) q e)
  where
    go : (first_home home xs ≡ Some q) ⊎ (first_home place ys ≡ Some q) → length xs' + length ys' < length xs + length ys
    go (inl h) = omega (arith, fewer home q xs h, no-more place q ys, ap length f, ap length g)
    go (inr h) = omega (arith, no-more home q xs, fewer place q ys h, ap length f, ap length g)

least : (p : ℕ) (a b : Option ℕ) → AtLeast p a → AtLeast p b → (a ≡ Some p) ⊎ (b ≡ Some p) → earlier a b ≡ Some p
least p None b ha hb (inl e) = absurd (cc)
least p None b ha hb (inr e) = e
least p (Some q) None ha hb (inl e) = e
least p (Some q) None ha hb (inr e) = absurd (cc)
least p (Some q) (Some r) ha hb (inl e) = ap Some (let z : q ≡ p = same_Some q p e in omega (arith, hb, z))
least p (Some q) (Some r) ha hb (inr e) = ap Some (let z : r ≡ p = same_Some r p e in omega (arith, ha, z))

module _ {X Y : Type 0} (home : X → Option ℕ) (place : Y → Option ℕ) (own : Block → List X) (marks : Block → List Y) (E : Block → List Edit) (idle : (b : Block) → own b ≡ [] → marks b ≡ [] → E b ≡ []) where
  abbrev next : List Block → Option ℕ
  next bs = earlier (first_home home (flat_map own bs)) (first_home place (flat_map marks bs))

  -- the next block with some of them
  pub record IsNext (p : ℕ) (bs : List Block) (q : ℕ) : Type 0 where
    pub k : ℕ
    pub block : Block
    pub position : q ≡ p + k
    pub there : slice_get bs k ≡ Some block
    pub own_first : take (how_many home q (flat_map own bs)) (flat_map own bs) ≡ own block
    pub own_behind : drop (how_many home q (flat_map own bs)) (flat_map own bs) ≡ flat_map own (drop (suc k) bs)
    pub marks_first : take (how_many place q (flat_map marks bs)) (flat_map marks bs) ≡ marks block
    pub marks_behind : drop (how_many place q (flat_map marks bs)) (flat_map marks bs) ≡ flat_map marks (drop (suc k) bs)
    pub edits : flat_map E bs ≡ E block ++ flat_map E (drop (suc k) bs)

  passed-over : (p q : ℕ) (b : Block) (bs : List Block) → own b ≡ [] → marks b ≡ [] → IsNext (suc p) bs q → IsNext p (b ∷ bs) q
  passed-over p q b bs none none' n = record {
    k = suc n.k;
    block = n.block;
    position = (let z : q ≡ suc p + n.k = n.position in omega (arith, z));
    there = n.there;
    own_first = subst (λ xs. take (how_many home q (xs ++ flat_map own bs)) (xs ++ flat_map own bs) ≡ own n.block) (sym none) n.own_first;
    own_behind = subst (λ xs. drop (how_many home q (xs ++ flat_map own bs)) (xs ++ flat_map own bs) ≡ flat_map own (drop (suc n.k) bs)) (sym none) n.own_behind;
    marks_first = subst (λ xs. take (how_many place q (xs ++ flat_map marks bs)) (xs ++ flat_map marks bs) ≡ marks n.block) (sym none') n.marks_first;
    marks_behind = subst (λ xs. drop (how_many place q (xs ++ flat_map marks bs)) (xs ++ flat_map marks bs) ≡ flat_map marks (drop (suc n.k) bs)) (sym none') n.marks_behind;
    edits = ap (λ es. es ++ flat_map E bs) (idle b none none') ∙ n.edits;
  }

  next-here : (p q : ℕ) (b : Block) (bs : List Block) → AreLaid home own p (b ∷ bs) → AreLaid place marks p (b ∷ bs) → next (b ∷ bs) ≡ Some q → (first_home home (flat_map own (b ∷ bs)) ≡ Some p) ⊎ (first_home place (flat_map marks (b ∷ bs)) ≡ Some p) → IsNext p (b ∷ bs) q
  next-here p q b bs laid laid' e some =
      let same : p ≡ q = same_Some p q (sym (least p (first_home home (flat_map own (b ∷ bs))) (first_home place (flat_map marks (b ∷ bs))) (first-from home own p (b ∷ bs) laid) (first-from place marks p (b ∷ bs) laid') some) ∙ e) in
      let x : IsCut home p (own b) (flat_map own bs) = cuts home p (own b) (flat_map own bs) laid.0 (first-from home own (suc p) bs laid.1) in
      let y : IsCut place p (marks b) (flat_map marks bs) = cuts place p (marks b) (flat_map marks bs) laid'.0 (first-from place marks (suc p) bs laid'.1) in
      subst (IsNext p (b ∷ bs)) same
      (record { k = 0; block = b; position = omega arith; there = refl; own_first = x.first; own_behind = x.behind; marks_first = y.first; marks_behind = y.behind; edits = refl })

  pub next-found : (p : ℕ) (bs : List Block) → AreLaid home own p bs → AreLaid place marks p bs → (q : ℕ) → next bs ≡ Some q → IsNext p bs q
  next-found p [] laid laid' q e = absurd (cc)
  next-found p (b ∷ bs) laid laid' q e = go (own b) refl (marks b) refl laid.0 laid'.0 (next-found (suc p) bs laid.1 laid'.1 q)
    where
      go : (xs : List X) → own b ≡ xs → (ys : List Y) → marks b ≡ ys → ((x : X) → Among x (own b) → home x ≡ Some p) → ((y : Y) → Among y (marks b) → place y ≡ Some p) → (next bs ≡ Some q → IsNext (suc p) bs q) → IsNext p (b ∷ bs) q
      go [] none [] none' h h' later =
          passed-over p q b bs none none' (later (ap (λ xs. earlier (first_home home (xs ++ flat_map own bs)) (first_home place (flat_map marks bs))) (sym none) ∙ (ap (λ ys. earlier (first_home home (flat_map own (b ∷ bs))) (first_home place (ys ++ flat_map marks bs))) (sym none') ∙ e)))
      go (x ∷ xs) some ys m h h' later =
          next-here p q b bs laid laid' e (inl (ap (λ zs. first_home home (zs ++ flat_map own bs)) some ∙ h x (subst (Among x) (sym some) here)))
      go [] none (y ∷ ys) some h h' later =
          next-here p q b bs laid laid' e (inr (ap (λ zs. first_home place (zs ++ flat_map marks bs)) some ∙ h' y (subst (Among y) (sym some) here)))

  neither : (a b : Option ℕ) → earlier a b ≡ None → (a ≡ None) × (b ≡ None)
  neither None b e = (refl, e)
  neither (Some p) None e = absurd (cc)
  neither (Some p) (Some q) e = absurd (cc)

  pub none-left : (p : ℕ) (bs : List Block) → AreLaid home own p bs → AreLaid place marks p bs → next bs ≡ None → flat_map E bs ≡ []
  none-left p [] laid laid' e = refl
  none-left p (b ∷ bs) laid laid' e = go (own b) refl (marks b) refl (neither (first_home home (flat_map own (b ∷ bs))) (first_home place (flat_map marks (b ∷ bs))) e) laid.0 laid'.0 (none-left (suc p) bs laid.1 laid'.1)
    where
      go : (xs : List X) → own b ≡ xs → (ys : List Y) → marks b ≡ ys → (first_home home (flat_map own (b ∷ bs)) ≡ None) × (first_home place (flat_map marks (b ∷ bs)) ≡ None) → ((x : X) → Among x (own b) → home x ≡ Some p) → ((y : Y) → Among y (marks b) → place y ≡ Some p) → (next bs ≡ None → flat_map E bs ≡ []) → flat_map E (b ∷ bs) ≡ []
      go [] none [] none' n h h' later =
          ap (λ es. es ++ flat_map E bs) (idle b none none')
          ∙ later (ap (λ xs. earlier (first_home home (xs ++ flat_map own bs)) (first_home place (flat_map marks bs))) (sym none) ∙ (ap (λ ys. earlier (first_home home (flat_map own (b ∷ bs))) (first_home place (ys ++ flat_map marks bs))) (sym none') ∙ e))
      go (x ∷ xs) some ys m n h h' later = absurd (let z : Some p ≡ None = sym (ap (λ zs. first_home home (zs ++ flat_map own bs)) some ∙ h x (subst (Among x) (sym some) here)) ∙ n.0 in cc)
      go [] none (y ∷ ys) some n h h' later = absurd (let z : Some p ≡ None = sym (ap (λ zs. first_home place (zs ++ flat_map marks bs)) some ∙ h' y (subst (Among y) (sym some) here)) ∙ n.1 in cc)
