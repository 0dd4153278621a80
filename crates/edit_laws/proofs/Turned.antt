-- What neither fell nor came alive is live where it was.
use Rattle.std.proofs.Common.{◌≡◌, ◌⊎◌, true, List, [], ◌∷◌, ◌++◌, refl, sym, ap, ◌∙◌, subst, inl, inr, append_assoc, append-nil}
use Rattle.mir_meaning.specs.Paths.{Among, here, Code}
use Rattle.live_lanes.specs.declared.row.Cause.{Cause}
use Rattle.live_lanes.specs.declared.row.Cause.TheVariants as causes
use Rattle.live_lanes.specs.Graph.{Causes, is_live}
use Rattle.live_lanes.proofs.Numbered.{among-left, among-right}
use Rattle.edit_laws.specs.Chains.{Node, cause_at}
use Rattle.edit_laws.specs.Reasons.{Touched}
use Rattle.edit_laws.specs.Update.{given, Fall, FallStep, stays, takes, falls, takes_too, falls_too, told, falling, Falls, fell, fall, Request, Rise, rising, RiseStep, passes, rises, follows, Rises, rose, rise, KeepLives}
use Rattle.edit_laws.specs.Turned.{TurnedLaw}
use Rattle.edit_laws.proofs.Carried.{reason-live}
use Rattle.edit_laws.proofs.Fallen.{Given, given-cases}

same-lives : (why : Causes) → KeepLives [] why why
same-lives why n = inr refl

-- a live piece gets another cause
still-live : (why : Causes) (k : Node) (c : Cause) → cause_at why k ≡ true → is_live c ≡ true → KeepLives [] why (given why k c)
still-live why k c live alive n = go (given-cases why k c n)
  where
    go : Given why k c n → Among n [] ⊎ (cause_at (given why k c) n ≡ cause_at why n)
    go (inl x) = inr (ap is_live x.2 ∙ (alive ∙ sym (subst (λ (z : Node). cause_at why z ≡ true) (sym x.1) live)))
    go (inr x) = inr (ap is_live x.1)

-- a piece gets any cause
one-turns : (why : Causes) (k : Node) (c : Cause) → KeepLives (k ∷ []) why (given why k c)
one-turns why k c n = go (given-cases why k c n)
  where
    go : Given why k c n → Among n (k ∷ []) ⊎ (cause_at (given why k c) n ≡ cause_at why n)
    go (inl x) = inl (subst (λ z. Among z (k ∷ [])) (sym x.1) here)
    go (inr x) = inr (ap is_live x.1)

lives-then : (xs ys : List Node) (a b c : Causes) → KeepLives xs a b → KeepLives ys b c → KeepLives (xs ++ ys) a c
lives-then xs ys a b c f g n = go (f n) (g n)
  where
    go : Among n xs ⊎ (cause_at b n ≡ cause_at a n) → Among n ys ⊎ (cause_at c n ≡ cause_at b n) → Among n (xs ++ ys) ⊎ (cause_at c n ≡ cause_at a n)
    go (inl m) h = inl (among-left n xs ys m)
    go (inr e) (inl m) = inl (among-right n xs ys m)
    go (inr e) (inr h) = inr (h ∙ e)

-- what is added to a list, and no other piece, turns
abbrev Turns : List Node → List Node → Causes → Causes → Type 0
Turns before after why why' = (added : List Node) × (after ≡ before ++ added) × KeepLives added why why'

none-turns : (qs : List Node) (why why' : Causes) → KeepLives [] why why' → Turns qs qs why why'
none-turns qs why why' k = ([], sym (append-nil qs), k)

turns-then : (ps qs rs : List Node) (a b c : Causes) → Turns ps qs a b → Turns qs rs b c → Turns ps rs a c
turns-then ps qs rs a b c x y =
    (x.0 ++ y.0, y.1 ∙ (ap (λ zs. zs ++ y.0) x.1 ∙ append_assoc ps x.0 y.0), lives-then x.0 y.0 a b c x.2 y.2)

module _ (touched : Touched) (code : Code) where
  fall-turns : {c d : Fall} → FallStep touched code c d → Turns c.asked d.asked c.why d.why
  fall-turns (stays {why = why} {qs = qs} h) = none-turns qs why why (same-lives why)
  fall-turns (takes {why = why} {n = n} {qs = qs} c live r) = none-turns qs why (given why n c) (still-live why n c live (reason-live r))
  fall-turns (falls {why = why} {n = n} {qs = qs}) = (n ∷ [], refl, one-turns why n causes.None)
  fall-turns (takes_too {why = why} {qs = qs} n c x r) = none-turns qs why (given why n c) (still-live why n c (reason-live x) (reason-live r))
  fall-turns (falls_too {why = why} {qs = qs} n x) = (n ∷ [], refl, one-turns why n causes.None)
  fall-turns (told {why = why} {qs = qs} none) = none-turns qs why why (same-lives why)

  falls-turn : {c d : Fall} → Falls touched code c d → Turns c.asked d.asked c.why d.why
  falls-turn (fell {c = c}) = none-turns c.asked c.why c.why (same-lives c.why)
  falls-turn (fall {c = c} {d = d} {e = e} x xs) = turns-then c.asked d.asked e.asked c.why d.why e.why (fall-turns x) (falls-turn xs)

  rise-turns : {c d : Rise} → RiseStep code c d → Turns c.changed d.changed c.why d.why
  rise-turns (passes {why = why} {cs = cs} live) = none-turns cs why why (same-lives why)
  rise-turns (rises {why = why} {r = r} {cs = cs} dead) = (r.node ∷ [], refl, one-turns why r.node r.cause)
  rise-turns (follows {why = why} {cs = cs} q lead) = none-turns cs why why (same-lives why)

  rises-turn : {c d : Rise} → Rises code c d → Turns c.changed d.changed c.why d.why
  rises-turn (rose {c = c}) = none-turns c.changed c.why c.why (same-lives c.why)
  rises-turn (rise {c = c} {d = d} {e = e} x xs) = turns-then c.changed d.changed e.changed c.why d.why e.why (rise-turns x) (rises-turn xs)

same-behind : (ps xs ys : List Node) → ps ++ xs ≡ ps ++ ys → xs ≡ ys
same-behind [] xs ys e = e
same-behind (p ∷ ps) xs ys e = let tail : ps ++ xs ≡ ps ++ ys = cc in same-behind ps xs ys tail

-- behind the pieces of a list stand all that turn
pub turned-behind : (touched : Touched) (code : Code) (before between after : Causes) (todo list asked changed turned : List Node) (queue : List Request) → Falls touched code (falling before todo [] list) (falling between [] [] asked) → Rises code (rising between queue [] asked) (rising after [] [] changed) → changed ≡ list ++ turned
    → KeepLives turned before after
turned-behind touched code before between after todo list asked changed turned queue down up e =
    let z = turns-then list asked changed before between after (falls-turn touched code down) (rises-turn touched code up) in
    let same : z.0 ≡ turned = same-behind list z.0 turned (sym z.1 ∙ e) in
    subst (λ ns. KeepLives ns before after) same z.2

pub turned-law : TurnedLaw
turned-law touched old new was before after changed turned u e = turned-behind touched new before u.between after u.list u.list u.asked changed turned u.queue u.falls u.rises e
