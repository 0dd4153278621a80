-- Which definitions of a range reach which readings, and where its lanes are live, can be told.
use Rattle.std.proofs.Common.{◌≡◌, ◌∙◌, ◌⊎◌, inl, inr, ℕ, zero, suc, ◌+◌, ◌<◌, ◌≤◌, Bool, true, false, cond, List, [], ◌∷◌, ◌++◌, Option, Some, None, map, length, drop, refl, sym, ap, subst, arith}
use Rattle.std.specs.Prelude.{nat_eq, nat_lt, option_map}
use Rattle.std.proofs.lemmas.Bool.{ltb-false, ltb-true}
use Rattle.target_base.specs.declared.types.Target.{Target}
use Rattle.meaning.specs.declared.types.Lane.{Lane}
use Rattle.meaning.specs.declared.types.Lane.TheVariants.{VirtualLane, UnitLane, SlotLane}
use Rattle.meaning.specs.declared.types.Write.{Write}
use Rattle.meaning.specs.Code.{Edge, Item, BlockStart, BlockEnd, Silent, Counted, Code, found}
use Rattle.meaning.specs.Live.{Among, exits_of, in_order, writes_of, Writing}
use Rattle.mir_func.specs.declared.func.Instr.{Instr}
use Rattle.mir_func.specs.declared.func.Block.{Block}
use Rattle.mir_func.specs.Edits.{instr_place}
use Rattle.mir_func.specs.Value.{Function}
use Rattle.mir_meaning.specs.Codes.{block_end, blocks_code}
use Rattle.mir_meaning.specs.Points.{AtFirst, Exit, LiveAt, block_rest, from_instr, has_instr, point_item, points_of}
use Rattle.mir_meaning.specs.Registers.{is_reserved}
use Rattle.instr_effects.specs.Numbered.{number_in}
use Rattle.instr_effects.specs.declared.owner.Owner.TheVariants as owners
use Rattle.live_lanes.specs.Looks.{exit_at}
use Rattle.live_lanes.specs.Touching.{reads_lane}
use Rattle.live_lanes.specs.declared.table.Table.{Table}
use Rattle.live_laws.specs.Effects.Coded.{one_on, spot_in}
use Rattle.live_laws.proofs.Acts.Told.{acts-law}
use Rattle.live_laws.proofs.Exact.Inside.{inside-law}
use Rattle.phi_elim.proofs.Walks.{drop_all}
use Rattle.spiller.specs.MaySpill.{MaySpill}
use Rattle.spiller.specs.Reaching.{AreFacts, Brings, Facts, Leads, Reaches, Reads, leaps, passes, stays}
use Rattle.spiller.proofs.Told.{Chain, Told, more, one, told-both, told-by, told-chain, told-either, told-no, told-not, told-number, told-some, told-true}
use Rattle.spiller.proofs.Basics.{drop-none, tails}

-- ends of a list by their places

drop-next : {X : Type 0} (x : X) (r : List X) (p : ℕ) (xs : List X) → x ∷ r ≡ drop p xs → r ≡ drop (suc p) xs
drop-next x r zero [] e = absurd (cc)
drop-next x r zero (y ∷ ys) e = tails x y r ys e ∙ sym (drop-none ys)
drop-next x r (suc p) [] e = absurd (cc)
drop-next x r (suc p) (y ∷ ys) e = drop-next x r p ys e

drop-inside : {X : Type 0} (x : X) (r : List X) (p : ℕ) (xs : List X) → x ∷ r ≡ drop p xs → p < length xs
drop-inside x r zero [] e = absurd (cc)
drop-inside x r zero (y ∷ ys) e = omega arith
drop-inside x r (suc p) [] e = absurd (cc)
drop-inside x r (suc p) (y ∷ ys) e = omega (arith, drop-inside x r p ys e)

drop-long : {X : Type 0} (p : ℕ) (xs : List X) → p < length xs → length (drop p xs) + p ≡ length xs
drop-long p [] h = absurd (omega (arith, h))
drop-long zero (x ∷ xs) h = omega arith
drop-long (suc p) (x ∷ xs) h = omega (arith, drop-long p xs (omega (arith, h)))

drop-same : {X : Type 0} (p q : ℕ) (xs : List X) → drop p xs ≡ drop q xs → q < length xs → p ≡ q
drop-same p q xs e h = go (nat_lt p (length xs)) refl
  where
    go : (b : Bool) → nat_lt p (length xs) ≡ b → p ≡ q
    go true k = omega (arith, drop-long p xs (ltb-true p (length xs) k), drop-long q xs h, ap length e)
    go false k = absurd (omega (arith, ap length (sym e ∙ drop_all p xs (ltb-false p (length xs) k)), drop-long q xs h, h))

-- whether an item writes a lane of a range

module _ (v k : ℕ) where
  abbrev lane : Lane
  lane = VirtualLane v k

  told-lane : (a : Lane) → Told (a ≡ lane)
  told-lane (VirtualLane w j) = told-by {P = (w ≡ v) × (j ≡ k)} (λ h i. VirtualLane (h.0 i) (h.1 i)) (λ e. (let z : w ≡ v = cc in z, let z : j ≡ k = cc in z)) (told-both (told-number w v) (told-number j k))
  told-lane (UnitLane u) = told-no (λ e. cc)
  told-lane (SlotLane s c w) = told-no (λ e. cc)

  pub told-writing : (i : Item) → Told (Writing i lane)
  told-writing i = told-some (λ (w : Write). w.lane ≡ lane) (λ w. told-lane w.lane) (writes_of i)

-- paths in a code

module _ (code : Code) (l : Lane) (writes : (i : Item) → Told (Writing i l)) where
  abbrev start-place : ℕ → Code → ℕ
  start-place n [] = 0
  start-place n (BlockStart m ∷ p) = cond (nat_eq m n) 1 (suc (start-place n p))
  start-place n (BlockEnd falls exits ∷ p) = suc (start-place n p)
  start-place n (Silent reads ws ∷ p) = suc (start-place n p)
  start-place n (Counted r reads ws target exits ∷ p) = suc (start-place n p)

  start-is : (n : ℕ) (c : Code) → found n c ≡ drop (start-place n c) c
  start-is n [] = refl
  start-is n (BlockStart m ∷ p) = go (nat_eq m n) (start-is n p)
    where
      go : (u : Bool) → found n p ≡ drop (start-place n p) p → cond u p (found n p) ≡ drop (cond u 1 (suc (start-place n p))) (BlockStart m ∷ p)
      go true h = sym (drop-none p)
      go false h = h
  start-is n (BlockEnd falls exits ∷ p) = start-is n p
  start-is n (Silent reads ws ∷ p) = start-is n p
  start-is n (Counted r reads ws target exits ∷ p) = start-is n p

  start-within : (n : ℕ) (c : Code) → start-place n c ≤ length c
  start-within n [] = omega arith
  start-within n (BlockStart m ∷ p) = go (nat_eq m n) (start-within n p)
    where
      go : (u : Bool) → start-place n p ≤ length p → cond u 1 (suc (start-place n p)) ≤ suc (length p)
      go true h = omega arith
      go false h = omega (arith, h)
  start-within n (BlockEnd falls exits ∷ p) = omega (arith, start-within n p)
  start-within n (Silent reads ws ∷ p) = omega (arith, start-within n p)
  start-within n (Counted r reads ws target exits ∷ p) = omega (arith, start-within n p)

  -- from place p, where this code stands, to place q
  abbrev StepsAt : Code → ℕ → ℕ → Type 0
  StepsAt [] p q = ⊥
  StepsAt (i ∷ c) p q = (Writing i l → ⊥) × ((in_order i ≡ true) × (suc p ≡ q) ⊎ (e : Edge) × Among e (exits_of i) × (start-place e.block code ≡ q))

  abbrev Steps : ℕ → ℕ → Type 0
  Steps p q = StepsAt (drop p code) p q

  told-at : (c : Code) (p q : ℕ) → Told (StepsAt c p q)
  told-at [] p q = told-no (λ h. h)
  told-at (i ∷ c) p q = told-both (told-not (writes i)) (told-either (told-both (told-true (in_order i)) (told-number (suc p) q)) (told-some (λ (e : Edge). start-place e.block code ≡ q) (λ e. told-number (start-place e.block code) q) (exits_of i)))

  bound : (p q : ℕ) → Steps p q → q < suc (length code)
  bound p q s = go (drop p code) refl s
    where
      go : (c : Code) → c ≡ drop p code → StepsAt c p q → q < suc (length code)
      go [] e s = absurd s
      go (i ∷ c) e (n, inl z) = omega (arith, drop-inside i c p code e, z.1)
      go (i ∷ c) e (n, inr z) = omega (arith, start-within z.0.block code, z.2)

  leads-forth : {u w : Code} → Leads code l u w → (p q : ℕ) → u ≡ drop p code → w ≡ drop q code → q < length code → (p ≡ q) ⊎ Chain Steps p q
  leads-forth stays p q e g h = inl (drop-same p q code (sym e ∙ g) h)
  leads-forth (passes {i = i} {p = r} ordered n rest) p q e g h =
      let step : Steps p (suc p) = subst (λ c. StepsAt c p (suc p)) e (n, inl (ordered, refl)) in
      go step (leads-forth rest (suc p) q (drop-next i r p code e) g h)
    where
      go : Steps p (suc p) → (suc p ≡ q) ⊎ Chain Steps (suc p) q → (p ≡ q) ⊎ Chain Steps p q
      go s (inl f) = inr (one (subst (Steps p) f s))
      go s (inr c) = inr (more s c)
  leads-forth (leaps {i = i} {p = r} {e = way} m n rest) p q e g h =
      let step : Steps p (start-place way.block code) = subst (λ c. StepsAt c p (start-place way.block code)) e (n, inr (way, m, refl)) in
      go (start-place way.block code) step (leads-forth rest (start-place way.block code) q (start-is way.block code) g h)
    where
      go : (m : ℕ) → Steps p m → (m ≡ q) ⊎ Chain Steps m q → (p ≡ q) ⊎ Chain Steps p q
      go m s (inl f) = inr (one (subst (Steps p) f s))
      go m s (inr c) = inr (more s c)

  step-leads : (p m : ℕ) (w : Code) → Steps p m → Leads code l (drop m code) w → Leads code l (drop p code) w
  step-leads p m w s h = go (drop p code) refl s
    where
      go : (c : Code) → c ≡ drop p code → StepsAt c p m → Leads code l c w
      go [] e s = absurd s
      go (i ∷ c) e (n, inl z) = passes z.0 n (subst (λ d. Leads code l d w) (sym (drop-next i c p code e ∙ ap (λ k. drop k code) z.1)) h)
      go (i ∷ c) e (n, inr z) = leaps z.1 n (subst (λ d. Leads code l d w) (sym (start-is z.0.block code ∙ ap (λ k. drop k code) z.2)) h)

  leads-back : {p q : ℕ} → Chain Steps p q → Leads code l (drop p code) (drop q code)
  leads-back (one {p = p} {q = q} s) = step-leads p q (drop q code) s stays
  leads-back (more {p = p} {m = m} {q = q} s c) = step-leads p m (drop q code) s (leads-back c)

  told-leads : (u w : Code) (p q : ℕ) → u ≡ drop p code → w ≡ drop q code → q < length code → Told (Leads code l u w)
  told-leads u w p q e g h = told-by back (λ z. leads-forth z p q e g h) (told-either (told-number p q) (told-chain Steps (λ p q. told-at (drop p code) p q) (suc (length code)) bound p q))
    where
      back : (p ≡ q) ⊎ Chain Steps p q → Leads code l u w
      back (inl f) = subst (λ d. Leads code l u d) (e ∙ (ap (λ k. drop k code) f ∙ sym g)) stays
      back (inr c) = subst (λ d. Leads code l d w) (sym e) (subst (λ d. Leads code l (drop p code) d) (sym g) (leads-back c))

  pub told-brought : (w : Code) (q : ℕ) → w ≡ drop q code → q < length code → (c : Code) (n : ℕ) → c ≡ drop n code → Told (AtFirst (λ i p. Brings code l i p w) c)
  told-brought w q g h [] n e = told-no (λ z. z)
  told-brought w q g h (i ∷ c) n e =
      told-both (writes i)
      (told-either (told-both (told-true (in_order i)) (told-leads c w (suc n) q (drop-next i c n code e) g h))
      (told-some (λ (x : Edge). Leads code l (found x.block code) w) (λ x. told-leads (found x.block code) w (start-place x.block code) q (start-is x.block code) g h) (exits_of i)))

-- the code of a function from an instruction on

module _ (t : Target) (f : Function) where
  abbrev blocks-code : List Block → Code
  blocks-code bs = blocks_code (point_item t f) t f bs

  mapped : (g : Instr → Item) (k : ℕ) (is : List Instr) (c : Code) → k ≤ length is → drop k (map g is ++ c) ≡ map g (drop k is) ++ c
  mapped g zero is c h = drop-none (map g is ++ c) ∙ sym (ap (λ js. map g js ++ c) (drop-none is))
  mapped g (suc k) [] c h = absurd (omega (arith, h))
  mapped g (suc k) (i ∷ is) c h = mapped g k is c (omega (arith, h))

  past : (g : Instr → Item) (is : List Instr) (x : Item) (c : Code) (m : ℕ) → drop (length is + suc m) (map g is ++ x ∷ c) ≡ drop m c
  past g [] x c m = let e : 0 + suc m ≡ suc m = omega arith in ap (λ k. drop k (x ∷ c)) e
  past g (i ∷ is) x c m = let e : length (i ∷ is) + suc m ≡ suc (length is + suc m) = omega arith in ap (λ k. drop k (g i ∷ (map g is ++ x ∷ c))) e ∙ past g is x c m

  instr-place : (id : ℕ) (bs : List Block) → (n : ℕ) × (from_instr t f id bs ≡ drop n (blocks-code bs))
  instr-place id [] = (0, refl)
  instr-place id (b ∷ bs) = go (has_instr id b) refl (instr-place id bs)
    where
      go : (u : Bool) → has_instr id b ≡ u → ((n : ℕ) × (from_instr t f id bs ≡ drop n (blocks-code bs))) → (n : ℕ) × (cond u (block_rest t f b bs (instr_place id b.instrs)) (from_instr t f id bs) ≡ drop n (blocks-code (b ∷ bs)))
      go true e z = (suc (instr_place id b.instrs), sym (mapped (point_item t f b) (instr_place id b.instrs) b.instrs (block_end t f b bs ∷ blocks-code bs) (omega (arith, ltb-true (instr_place id b.instrs) (length b.instrs) e))))
      go false e z = (suc (length b.instrs + suc z.0), z.1 ∙ sym (past (point_item t f b) b.instrs (block_end t f b bs) (blocks-code bs) z.0))

  code-is : points_of t f ≡ blocks-code f.blocks
  unfolding points_of
  code-is = refl

  pub from-place : (id : ℕ) → (n : ℕ) × (from_instr t f id f.blocks ≡ drop n (points_of t f))
  from-place id = let z = instr-place id f.blocks in (z.0, z.1 ∙ ap (λ c. drop z.0 c) (sym code-is))

  -- no instruction of the id stands there
  nowhere : {X Y : Type 0} (g : X → Y) (q : Option X) → option_map g q ≡ None → q ≡ None
  nowhere g None e = refl
  nowhere g (Some x) e = absurd (cc)

  pub spot-none : (id : ℕ) (bs : List Block) → spot_in id bs ≡ None → from_instr t f id bs ≡ []
  spot-none id [] e = refl
  spot-none id (b ∷ bs) e = go (has_instr id b) e (spot-none id bs)
    where
      go : (u : Bool) → cond u (Some (0, instr_place id b.instrs)) (option_map one_on (spot_in id bs)) ≡ None → (spot_in id bs ≡ None → from_instr t f id bs ≡ []) → cond u (block_rest t f b bs (instr_place id b.instrs)) (from_instr t f id bs) ≡ []
      go true e ih = absurd (cc)
      go false e ih = ih (nowhere one_on (spot_in id bs) e)

-- the facts of a range

first-none : (P : Item → Code → Type 0) (q : Code) → q ≡ [] → AtFirst P q → ⊥
first-none P q e u = subst (AtFirst P) e u

module _ (t : Target) (f : Function) (x : Table) (v : ℕ) (may : MaySpill t f x v) where
  told-live : (id k : ℕ) → Told (LiveAt t f (Exit id) (VirtualLane v k))
  told-live id k = go (spot_in id f.blocks) refl
    where
      go : (q : Option (ℕ × ℕ)) → spot_in id f.blocks ≡ q → Told (LiveAt t f (Exit id) (VirtualLane v k))
      go None e = told-no (first-none _ (from_instr t f id f.blocks) (spot-none t f id f.blocks e))
      go (Some (p, j)) e =
          let z = (inside-law t f x may.computed may.lowered.rules may.last).exit (VirtualLane v k) refl refl id p j e in
          record { test = exit_at x (number_in x.lanes (owners.Range v k)) id; forth = z.0; back = z.1 }

  told-read : (k i : ℕ) → Told (AtFirst (Reads (is_reserved t) (points_of t f) (VirtualLane v k)) (from_instr t f i f.blocks))
  told-read k i = go (spot_in i f.blocks) refl
    where
      go : (q : Option (ℕ × ℕ)) → spot_in i f.blocks ≡ q → Told (AtFirst (Reads (is_reserved t) (points_of t f) (VirtualLane v k)) (from_instr t f i f.blocks))
      go None e = told-no (first-none _ (from_instr t f i f.blocks) (spot-none t f i f.blocks e))
      go (Some (p, j)) e =
          let z = (acts-law t f x may.computed may.lowered.rules may.last).reading (VirtualLane v k) refl refl i p j e in
          record { test = reads_lane x (number_in x.lanes (owners.Range v k)) i; forth = z.0; back = z.1 }

  told-reaches : (d k i : ℕ) → Told (Reaches t f v d k i)
  told-reaches d k i = go (from_instr t f i f.blocks) refl
    where
      go : (w : Code) → from_instr t f i f.blocks ≡ w → Told (Reaches t f v d k i)
      go [] e = told-no (λ h. first-none (Reads (is_reserved t) (points_of t f) (VirtualLane v k)) (from_instr t f i f.blocks) e h.1)
      go (y ∷ c) e =
          let to = from-place t f i in
          let from = from-place t f d in
          told-both
          (told-brought (points_of t f) (VirtualLane v k) (told-writing v k) (from_instr t f i f.blocks) to.0 to.1 (drop-inside y c to.0 (points_of t f) (sym e ∙ to.1)) (from_instr t f d f.blocks) from.0 from.1)
          (told-read k i)

  pub told-facts : (facts : Facts) × AreFacts t f v facts
  told-facts = (
    record { live_behind = λ id k. (told-live id k).test; reaches = λ d k i. (told-reaches d k i).test },
    record {
      live = λ p. ((told-live p.0 p.1).forth, (told-live p.0 p.1).back);
      reach = λ p. ((told-reaches p.0 p.1 p.2).forth, (told-reaches p.0 p.1 p.2).back);
    },
  )
