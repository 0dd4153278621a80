-- Lanes that no edit concerns, and that are copied into none that one does, keep their causes.
use Rattle.std.proofs.Common.{◌≡◌, ◌⊎◌, ℕ, Bool, true, false, List, [], ◌∷◌, ◌++◌, Option, None, Some, refl, sym, ap, ◌∙◌, subst, inl, inr}
use Rattle.mir_meaning.specs.Paths.{Among, here, there, Step, Code, steps_of, Into, use_of}
use Rattle.live_lanes.specs.declared.row.Cause.{Cause}
use Rattle.live_lanes.specs.declared.row.Cause.TheVariants as causes
use Rattle.live_lanes.specs.Graph.{Causes}
use Rattle.live_lanes.proofs.Basics.{none-among, among-append}
use Rattle.live_lanes.proofs.Numbered.{among-cases, among-split}
use Rattle.edit_laws.specs.Chains.{Node}
use Rattle.edit_laws.specs.Reasons.{IsReason, for_reading, for_move, for_exit, for_end, for_phi, Touched}
use Rattle.edit_laws.specs.Steps.{KeepOthers}
use Rattle.edit_laws.specs.Update.{given, Fall, FallStep, stays, takes, falls, takes_too, falls_too, told, Falls, fell, fall, Request, Rise, RiseStep, passes, rises, follows, Rises, rose, rise, CopiedApart, OthersLaw, GoneLaw}
use Rattle.edit_laws.proofs.Grown.{grown-law}
use Rattle.edit_laws.proofs.Fallen.{no-other, Given, given-cases}

module _ (test : ℕ → Bool) (touched : Touched) (code : Code) (apart : CopiedApart test code) (before : Causes) where
  abbrev Tells : Node → Type 0
  Tells n = test n.0 ≡ true

  abbrev AllTold : List Node → Type 0
  AllTold ns = (n : Node) → Among n ns → Tells n

  told-move : (b : ℕ) (s : Step) → Among s (steps_of code b) → (l a : ℕ) → use_of l s ≡ Into a → test a ≡ true → test l ≡ true
  told-move b s m l a u t = go (test l) refl
    where
      go : (v : Bool) → test l ≡ v → v ≡ true
      go true e = refl
      go false e = no-other (test a) t (apart b s m l a e u)

  abbrev lane_in : Option Node → ℕ
  lane_in None = 0
  lane_in (Some m) = m.0

  -- what leads to a lane that is told is told
  leads-told : {l b n : ℕ} {c : Cause} {o : Option Node} → IsReason code l b n c o → (m : Node) → o ≡ Some m → Tells m → test l ≡ true
  leads-told (for_reading us s vs e u) m g t = absurd (let z : None ≡ Some m = g in cc)
  leads-told (for_move {l = l} {a = a} {b = b} us s vs e u w) m g t = told-move b s (subst (Among s) (sym e) (among-append s us vs)) l a u (ap test (ap lane_in g) ∙ t)
  leads-told (for_exit us s vs e k a) m g t = ap test (ap lane_in g) ∙ t
  leads-told (for_end a) m g t = ap test (ap lane_in g) ∙ t
  leads-told (for_phi a) m g t = absurd (let z : None ≡ Some m = g in cc)

  tells-more : (ns : List Node) (k : Node) → AllTold ns → Tells k → AllTold (ns ++ k ∷ [])
  tells-more ns k all t n a = go (among-split n ns (k ∷ []) a)
    where
      last : (n ≡ k) ⊎ Among n [] → Tells n
      last (inl e) = ap (λ (z : Node). test z.0) e ∙ t
      last (inr b) = absurd (none-among n b)

      go : Among n ns ⊎ Among n (k ∷ []) → Tells n
      go (inl b) = all n b
      go (inr b) = last (among-cases n k [] b)

  -- another cause of a piece that is told
  given-others : (why : Causes) (k : Node) (c : Cause) → Tells k → KeepOthers test before why → KeepOthers test before (given why k c)
  given-others why k c t others l b n out = go (given-cases why k c (l, b, n))
    where
      go : Given why k c (l, b, n) → given why k c l b n ≡ before l b n
      go (inl x) = no-other (test l) (ap (λ (z : Node). test z.0) x.1 ∙ t) out
      go (inr x) = x.1 ∙ others l b n out

  record FallTold (c : Fall) : Type 0 where
    pub todo : AllTold c.todo
    pub lost : AllTold c.lost
    pub asked : AllTold c.asked
    pub others : KeepOthers test before c.why

  fall-told : {c d : Fall} → FallStep touched code c d → FallTold c → FallTold d
  fall-told (stays {why = why} {n = n} {ns = ns} {ws = ws} {qs = qs} h) f = record { todo = λ m a. f.todo m (there a); lost = f.lost; asked = f.asked; others = f.others }
  fall-told (takes {why = why} {n = n} {ns = ns} {ws = ws} {qs = qs} c live r) f = record { todo = λ m a. f.todo m (there a); lost = f.lost; asked = f.asked; others = given-others why n c (f.todo n here) f.others }
  fall-told (falls {why = why} {n = n} {ns = ns} {ws = ws} {qs = qs}) f =
      let t : Tells n = f.todo n here in
      record { todo = λ m a. f.todo m (there a); lost = tells-more ws n f.lost t; asked = tells-more qs n f.asked t; others = given-others why n causes.None t f.others }
  fall-told (takes_too {why = why} {w = w} {ws = ws} {qs = qs} n c x r) f =
      record { todo = f.todo; lost = f.lost; asked = f.asked; others = given-others why n c (leads-told x w refl (f.lost w here)) f.others }
  fall-told (falls_too {why = why} {w = w} {ws = ws} {qs = qs} n x) f =
      let t : Tells n = leads-told x w refl (f.lost w here) in
      record { todo = f.todo; lost = tells-more (w ∷ ws) n f.lost t; asked = tells-more qs n f.asked t; others = given-others why n causes.None t f.others }
  fall-told (told {why = why} {w = w} {ws = ws} {qs = qs} none) f = record { todo = f.todo; lost = λ m a. f.lost m (there a); asked = f.asked; others = f.others }

  falls-told : {c d : Fall} → Falls touched code c d → FallTold c → FallTold d
  falls-told fell f = f
  falls-told (fall x xs) f = falls-told xs (fall-told x f)

  record RiseTold (c : Rise) : Type 0 where
    pub queue : (r : Request) → Among r c.queue → Tells r.node
    pub risen : AllTold c.risen
    pub others : KeepOthers test before c.why

  rise-told : {c d : Rise} → RiseStep code c d → RiseTold c → RiseTold d
  rise-told (passes {why = why} {r = r} {q = q} {ms = ms} {cs = cs} live) f = record { queue = λ p a. f.queue p (there a); risen = f.risen; others = f.others }
  rise-told (rises {why = why} {r = r} {q = q} {ms = ms} {cs = cs} dead) f =
      let t : Tells r.node = f.queue r here in
      record { queue = λ p a. f.queue p (there a); risen = tells-more ms r.node f.risen t; others = given-others why r.node r.cause t f.others }
  rise-told (follows {why = why} {m = m} {ms = ms} {cs = cs} q lead) f =
      record { queue = λ r a. leads-told (lead.reasons r a) m refl (f.risen m here); risen = λ n a. f.risen n (there a); others = f.others }

  rises-told : {c d : Rise} → Rises code c d → RiseTold c → RiseTold d
  rises-told rose f = f
  rises-told (rise x xs) f = rises-told xs (rise-told x f)

pub others-law : OthersLaw
others-law test touched old new was before after changed apart u all =
    let f = falls-told test touched new apart before u.falls (record { todo = all; lost = λ n a. absurd (none-among n a); asked = all; others = λ l b n o. refl }) in
    let g = rises-told test touched new apart before u.rises (record { queue = λ r a. f.asked r.node (u.asks.inside r a); risen = λ n a. absurd (none-among n a); others = f.others }) in
    g.others

clash : {A : Type 0} → false ≡ true → A
clash e = absurd (cc)

pub gone-law : GoneLaw
gone-law old new why codes grown =
    grown-law (λ l. false) old new why why codes grown (λ l b n o. refl) (record {
      reading = λ b l t us s vs e u. clash t;
      move = λ b l a t us s vs e u live. clash t;
      exit = λ b l x t us s vs e k m live. clash t;
      end = λ b l x t m live. clash t;
      phi = λ b l t m. clash t;
      founded = λ l b n t live. clash t;
    })
