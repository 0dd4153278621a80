-- Pieces of lanes that no edited instruction names, and that lead to none which one names, end where they did.
use Rattle.std.proofs.Common.{◌≡◌, ◌<◌, ◌≤◌, ◌⊎◌, ℕ, ◌+◌, ◌*◌, Bool, true, false, List, [], ◌∷◌, ◌++◌, refl, sym, ap, ◌∙◌, subst, inl, inr, arith, append_assoc}
use Rattle.slot_index.specs.Order.{number_of}
use Rattle.mir_meaning.specs.Paths.{Among, Step, Code, steps_of, Into, use_of}
use Rattle.live_lanes.specs.declared.row.PieceEnd.{PieceEnd}
use Rattle.live_lanes.specs.declared.row.PieceEnd.TheVariants as ends
use Rattle.live_lanes.specs.Graph.{Causes, is_live, writes_in}
use Rattle.live_lanes.specs.Table.{Numbers, end_rank}
use Rattle.live_lanes.specs.Entered.{Rises, IsNumbered}
use Rattle.live_lanes.specs.Ends.{Counts, reads, moves, leaves, goes, phi}
use Rattle.live_lanes.proofs.Basics.{among-append}
use Rattle.live_lanes.proofs.Sound.{splits, Splits}
use Rattle.live_lanes.proofs.Numbered.{rises-above, rises-across, rises-bounded}
use Rattle.edit_laws.specs.Steps.{IsApart, AreCodes, KeepOthers, EndsLaw}
use Rattle.edit_laws.proofs.Grown.{Located, stands, came, locate, steps-turned, codes-turned, same-all, same-behind, certain-apart, into-apart, leaves-apart, live-new}

others-turned : {told : ℕ → Bool} {why why' : Causes} → KeepOthers told why why' → KeepOthers told why' why
others-turned h = λ l b n o. sym (h l b n o)

module _ (told : ℕ → Bool) (old new : Code) (why why' : Causes) (codes : AreCodes told old new) (others : KeepOthers told why why') where
  -- the points that count are the same
  pub counts-new : {l b n : ℕ} {e : PieceEnd} → told l ≡ false → Counts old why l b n e → Counts new why' l b n e
  counts-new {l = l} {b = b} {n = n} o (reads before s rest e w u) = go (locate told (steps-turned (codes.steps b)) before s rest e)
    where
      go : Located told (steps_of new b) before s rest → Counts new why' l b n (ends.Entry s.id)
      go (stands before' r rest' e' k h a) = subst (λ i. Counts new why' l b n (ends.Entry i)) k.id (reads before' r rest' e' (h l o ∙ w) (k.used l o ∙ u))
      go (came k) = absurd (certain-apart told s l k o u)
  counts-new {l = l} {b = b} {n = n} o (moves a before s rest e w u live) = go (locate told (steps-turned (codes.steps b)) before s rest e)
    where
      go : Located told (steps_of new b) before s rest → Counts new why' l b n (ends.Entry s.id)
      go (stands before' r rest' e' k h z) =
          let v : use_of l r ≡ Into a = k.used l o ∙ u in
          let p = k.apart l a o v in
          let on = live-new told old new why why' codes others a b (writes_in a (before ++ s ∷ [])) (writes_in a (before' ++ r ∷ [])) p (sym (same-behind told before' before r s k h a p)) live in
          subst (λ i. Counts new why' l b n (ends.Entry i)) k.id (moves a before' r rest' e' (h l o ∙ w) v on)
      go (came k) = absurd (into-apart told s l a k o u)
  counts-new {l = l} {b = b} {n = n} o (leaves x before s rest e w t m live) = go (locate told (steps-turned (codes.steps b)) before s rest e)
    where
      on : is_live (why' l x 0) ≡ true
      on = live-new told old new why why' codes others l x 0 0 o refl live

      go : Located told (steps_of new b) before s rest → Counts new why' l b n (ends.Exit s.id)
      go (stands before' r rest' e' k h z) = subst (λ i. Counts new why' l b n (ends.Exit i)) k.id (leaves x before' r rest' e' (same-behind told before' before r s k h l o ∙ w) (k.leaves ∙ t) (subst (Among x) (codes.exits b) m) on)
      go (came k) = absurd (leaves-apart told s k t)
  counts-new {l = l} {b = b} o (goes x w m live) = goes x (sym (same-all told (codes.steps b) l o) ∙ w) (subst (Among x) (codes.exits b) m) (live-new told old new why why' codes others l x 0 0 o refl live)
  counts-new {l = l} {b = b} o (phi w m) = phi (sym (same-all told (codes.steps b) l o) ∙ w) (subst (Among l) (codes.last b) m)

-- a point that counts: the block's end, or the entry or the exit of an instruction that doesn't come by an edit
data AtPoint (told : ℕ → Bool) (code : Code) (b : ℕ) : PieceEnd → Type 0 where
  at_end : AtPoint told code b ends.Last
  at_entry : (before : List Step) (s : Step) (rest : List Step) → steps_of code b ≡ before ++ s ∷ rest → (IsApart told s → ⊥) → AtPoint told code b (ends.Entry s.id)
  at_exit : (before : List Step) (s : Step) (rest : List Step) → steps_of code b ≡ before ++ s ∷ rest → (IsApart told s → ⊥) → AtPoint told code b (ends.Exit s.id)

point-of : (told : ℕ → Bool) {code : Code} {why : Causes} {l b n : ℕ} {e : PieceEnd} → told l ≡ false → Counts code why l b n e → AtPoint told code b e
point-of told {l = l} o (reads before s rest e w u) = at_entry before s rest e (λ k. certain-apart told s l k o u)
point-of told {l = l} o (moves a before s rest e w u live) = at_entry before s rest e (λ k. into-apart told s l a k o u)
point-of told o (leaves x before s rest e w t m live) = at_exit before s rest e (λ k. leaves-apart told s k t)
point-of told o (goes x w m live) = at_end
point-of told o (phi w m) = at_end

module _ (told : ℕ → Bool) (old new : Code) (slots slots' : Numbers) (codes : AreCodes told old new) (numbered : IsNumbered old slots) (numbered' : IsNumbered new slots') (b : ℕ) where
  bounded' : (before : List Step) (s : Step) (rest : List Step) → steps_of new b ≡ before ++ s ∷ rest → number_of slots' s.id < 18446744073709551616
  bounded' before s rest e = rises-bounded slots' 0 (before ++ s ∷ rest) s (subst (Rises slots' 0) e (numbered' b)) (among-append s before rest)

  in-old : (before rest : List Step) (s : Step) → steps_of old b ≡ before ++ s ∷ rest → (0 < number_of slots s.id) × (number_of slots s.id < 18446744073709551616)
  in-old before rest s e =
      let r : Rises slots 0 (before ++ s ∷ rest) = subst (Rises slots 0) e (numbered b) in
      (rises-above slots 0 (before ++ s ∷ rest) s r (among-append s before rest), rises-bounded slots 0 (before ++ s ∷ rest) s r (among-append s before rest))

  held : (before : List Step) (s : Step) (rest : List Step) → steps_of new b ≡ before ++ s ∷ rest → (IsApart told s → ⊥) → (0 < number_of slots s.id) × (number_of slots s.id < 18446744073709551616)
  held before s rest e firm = go (locate told (codes.steps b) before s rest e)
    where
      go : Located told (steps_of old b) before s rest → (0 < number_of slots s.id) × (number_of slots s.id < 18446744073709551616)
      go (stands before' r rest' e' k h a) = subst (λ i. (0 < number_of slots i) × (number_of slots i < 18446744073709551616)) k.id (in-old before' rest' r e')
      go (came k) = absurd (firm k)

  -- of two instructions in the new order, the numbers of before rise too
  ahead : (us : List Step) (s : Step) (mid : List Step) (r : Step) (vs : List Step) → steps_of new b ≡ us ++ s ∷ (mid ++ r ∷ vs) → (IsApart told s → ⊥) → (IsApart told r → ⊥) → number_of slots s.id < number_of slots r.id
  ahead us s mid r vs e firm firm' = go (locate told (codes.steps b) us s (mid ++ r ∷ vs) e)
    where
      second : (i : ℕ) (before rest : List Step) (x : Step) → x.id ≡ i → steps_of old b ≡ before ++ x ∷ rest → Located told rest mid r vs → number_of slots i < number_of slots r.id
      second i before rest x same f (stands before' y rest' g k h a) =
          let rise : Rises slots 0 ((before ++ x ∷ []) ++ rest) = subst (Rises slots 0) (f ∙ sym (append_assoc before (x ∷ []) rest)) (numbered b) in
          let lt = rises-across slots 0 (before ++ x ∷ []) rest x y rise (among-append x before []) (subst (Among y) (sym g) (among-append y before' rest')) in
          subst (λ j. number_of slots j < number_of slots r.id) same (subst (λ j. number_of slots x.id < number_of slots j) k.id lt)
      second i before rest x same f (came k) = absurd (firm' k)

      go : Located told (steps_of old b) us s (mid ++ r ∷ vs) → number_of slots s.id < number_of slots r.id
      go (stands before x rest f k h a) = second s.id before rest x k.id f (locate told a mid r vs refl)
      go (came k) = absurd (firm k)

  -- where the new number is less, the old one was
  data Compared (i j : ℕ) : Type 0 where
    is_less : number_of slots i < number_of slots j → number_of slots' i < number_of slots' j → Compared i j
    is_same : number_of slots i ≡ number_of slots j → number_of slots' i ≡ number_of slots' j → Compared i j
    is_more : number_of slots j < number_of slots i → Compared i j

  compare : (us : List Step) (s : Step) (us' : List Step) (ws : List Step) (r : Step) (ws' : List Step) → steps_of new b ≡ us ++ s ∷ us' → steps_of new b ≡ ws ++ r ∷ ws' → (IsApart told s → ⊥) → (IsApart told r → ⊥) → Compared s.id r.id
  compare us s us' ws r ws' e g firm firm' = go (splits new b 0 us (s ∷ us') ws (r ∷ ws') (sym e ∙ g))
    where
      before : (mid : List Step) → s ∷ us' ≡ mid ++ r ∷ ws' → Compared s.id r.id
      before [] f = let one : s ≡ r = cc in is_same (ap (λ (x : Step). number_of slots x.id) one) (ap (λ (x : Step). number_of slots' x.id) one)
      before (y ∷ mid) f =
          let tail : us' ≡ mid ++ r ∷ ws' = cc in
          let all : steps_of new b ≡ us ++ s ∷ (mid ++ r ∷ ws') = e ∙ ap (λ xs. us ++ s ∷ xs) tail in
          let rise : Rises slots' 0 ((us ++ s ∷ []) ++ (mid ++ r ∷ ws')) = subst (Rises slots' 0) (all ∙ sym (append_assoc us (s ∷ []) (mid ++ r ∷ ws'))) (numbered' b) in
          is_less (ahead us s mid r ws' all firm firm') (rises-across slots' 0 (us ++ s ∷ []) (mid ++ r ∷ ws') s r rise (among-append s us []) (among-append r mid ws'))

      go : Splits new b 0 us (s ∷ us') ws (r ∷ ws') → Compared s.id r.id
      go (inl z) = before z.0 z.2
      go (inr z) =
          let one : r ≡ z.0 = cc in
          let tail : ws' ≡ z.1 ++ s ∷ us' = cc in
          is_more (ahead ws r z.1 s us' (g ∙ ap (λ xs. ws ++ r ∷ xs) tail) firm' firm)

  -- the order of points that count
  keeps-order : (p q : PieceEnd) → AtPoint told new b p → AtPoint told new b q → end_rank slots p ≤ end_rank slots q → end_rank slots' p ≤ end_rank slots' q
  keeps-order p q at_end at_end h = omega arith
  keeps-order p q (at_entry us s us' e firm) at_end h = let z = bounded' us s us' e in omega (arith, z)
  keeps-order p q (at_exit us s us' e firm) at_end h = let z = bounded' us s us' e in omega (arith, z)
  keeps-order p q at_end (at_entry ws r ws' g firm') h = absurd (let z = (held ws r ws' g firm').1 in omega (arith, z, h))
  keeps-order p q at_end (at_exit ws r ws' g firm') h = absurd (let z = (held ws r ws' g firm').1 in omega (arith, z, h))
  keeps-order p q (at_entry us s us' e firm) (at_entry ws r ws' g firm') h = go (compare us s us' ws r ws' e g firm firm')
    where
      go : Compared s.id r.id → number_of slots' s.id * 2 ≤ number_of slots' r.id * 2
      go (is_less a c) = omega (arith, c)
      go (is_same a c) = omega (arith, c)
      go (is_more a) = absurd (omega (arith, a, h))
  keeps-order p q (at_entry us s us' e firm) (at_exit ws r ws' g firm') h = go (compare us s us' ws r ws' e g firm firm')
    where
      go : Compared s.id r.id → number_of slots' s.id * 2 ≤ number_of slots' r.id * 2 + 1
      go (is_less a c) = omega (arith, c)
      go (is_same a c) = omega (arith, c)
      go (is_more a) = absurd (omega (arith, a, h))
  keeps-order p q (at_exit us s us' e firm) (at_entry ws r ws' g firm') h = go (compare us s us' ws r ws' e g firm firm')
    where
      go : Compared s.id r.id → number_of slots' s.id * 2 + 1 ≤ number_of slots' r.id * 2
      go (is_less a c) = omega (arith, c)
      go (is_same a c) = absurd (omega (arith, a, h))
      go (is_more a) = absurd (omega (arith, a, h))
  keeps-order p q (at_exit us s us' e firm) (at_exit ws r ws' g firm') h = go (compare us s us' ws r ws' e g firm firm')
    where
      go : Compared s.id r.id → number_of slots' s.id * 2 + 1 ≤ number_of slots' r.id * 2 + 1
      go (is_less a c) = omega (arith, c)
      go (is_same a c) = omega (arith, c)
      go (is_more a) = absurd (omega (arith, a, h))

  -- each point that counts has a rank
  has-rank : (p : PieceEnd) → AtPoint told new b p → 0 < end_rank slots p
  has-rank p at_end = omega arith
  has-rank p (at_entry us s us' e firm) = let z = (held us s us' e firm).0 in omega (arith, z)
  has-rank p (at_exit us s us' e firm) = omega arith

pub ends-law : EndsLaw
ends-law told old new slots slots' why why' codes numbered numbered' others l b n o end is = record { counts = counts is.counts; last = λ p c. last p c is.counts }
  where
    counts : (end ≡ ends.Never) ⊎ Counts old why l b n end → (end ≡ ends.Never) ⊎ Counts new why' l b n end
    counts (inl e) = inl e
    counts (inr c) = inr (counts-new told old new why why' codes others o c)

    last : (p : PieceEnd) → Counts new why' l b n p → (end ≡ ends.Never) ⊎ Counts old why l b n end → end_rank slots' p ≤ end_rank slots' end
    last p c (inl e) =
        let h = is.last p (counts-new told new old why' why (codes-turned codes) (others-turned others) o c) in
        let z = has-rank told old new slots slots' codes numbered numbered' b p (point-of told o c) in
        let y = ap (end_rank slots) e in
        absurd (omega (arith, h, z, y))
    last p c (inr d) =
        let h = is.last p (counts-new told new old why' why (codes-turned codes) (others-turned others) o c) in
        keeps-order told old new slots slots' codes numbered numbered' b p end (point-of told o c) (point-of told o (counts-new told old new why why' codes others o d)) h
