-- Pieces whose causes are lost fall, and with them all that are live for their sake: the others stand firm.
use Rattle.std.proofs.Common.{◌≡◌, ◌⊎◌, ℕ, Bool, true, false, cond, List, [], ◌∷◌, ◌++◌, Option, None, Some, refl, sym, ap, ◌∙◌, subst, inl, inr}
use Rattle.mir_meaning.specs.Paths.{Among, here, Code}
use Rattle.live_lanes.specs.declared.row.Cause.{Cause}
use Rattle.live_lanes.specs.declared.row.Cause.TheVariants as causes
use Rattle.live_lanes.specs.Graph.{Causes, is_live}
use Rattle.live_lanes.proofs.Basics.{none-among}
use Rattle.live_lanes.proofs.Numbered.{among-cases, among-left, among-right}
use Rattle.edit_laws.specs.Chains.{Node, Notes, cause_at, RestsOn, on_reading, on_move, on_exit, on_end, on_phi, Ends, StandFirm, same_node, noted}
use Rattle.edit_laws.specs.Reasons.{IsReason, for_reading, for_move, for_exit, for_end, for_phi, ReasonFor, cause_of, counts, Touched}
use Rattle.edit_laws.specs.Update.{Holds, holds_dead, holds_reading, holds_exit, holds_end, given, Fall, falling, FallStep, stays, takes, falls, takes_too, falls_too, told, Falls, fell, fall, KeepLives}
use Rattle.edit_laws.proofs.Chains.{same-is, same-self, noted-here, noted-there, cut-law}
use Rattle.edit_laws.proofs.Carried.{reason-live, reason-moves}

pub no-other : {A : Type 0} (u : Bool) → u ≡ true → u ≡ false → A
no-other u f g = absurd (let z : true ≡ false = sym f ∙ g in cc)

-- a right cause is a reason
pub rests : {code : Code} {why : Causes} {l b n : ℕ} {c : Cause} {o : Option Node} → IsReason code l b n c o → why l b n ≡ c → RestsOn code why l b n o
rests (for_reading before s rest e u) c = on_reading before s rest e c u
rests (for_move before s rest e u w) c = on_move before s rest e c u w
rests (for_exit before s rest e t m) c = on_exit before s rest e c t m
rests (for_end m) c = on_end c m
rests (for_phi m) c = on_phi c m

pub reason-of : {code : Code} {why : Causes} {l b n : ℕ} {o : Option Node} → RestsOn code why l b n o → IsReason code l b n (why l b n) o
reason-of (on_reading before s rest e c u) = reason-moves (for_reading before s rest e u) refl (sym c) refl
reason-of (on_move before s rest e c u w) = reason-moves (for_move before s rest e u w) refl (sym c) refl
reason-of (on_exit before s rest e c t m) = reason-moves (for_exit before s rest e t m) refl (sym c) refl
reason-of (on_end c m) = reason-moves (for_end m) refl (sym c) refl
reason-of (on_phi c m) = reason-moves (for_phi m) refl (sym c) refl

pub holds-moves : {touched : Touched} {code : Code} {why : Causes} {l b n : ℕ} → Holds touched code why l b n → (why' : Causes) → why' l b n ≡ why l b n → Holds touched code why' l b n
holds-moves (holds_dead d) why' e = holds_dead (ap is_live e ∙ d)
holds-moves (holds_reading before s rest g c t) why' e = holds_reading before s rest g (e ∙ c) t
holds-moves (holds_exit before s rest g c t) why' e = holds_exit before s rest g (e ∙ c) t
holds-moves (holds_end c) why' e = holds_end (e ∙ c)

-- a piece whose cause is given anew, or another
abbrev pub Given : Causes → Node → Cause → Node → Type 0
Given why k c n = ((same_node n k ≡ true) × (n ≡ k) × (cause_of (given why k c) n ≡ c)) ⊎ ((same_node n k ≡ false) × (cause_of (given why k c) n ≡ cause_of why n))

pub given-cases : (why : Causes) (k : Node) (c : Cause) (n : Node) → Given why k c n
given-cases why k c n = go (same_node n k) refl
  where
    go : (u : Bool) → same_node n k ≡ u → Given why k c n
    go true e = inl (e, same-is n k e, ap (λ u. cond u c (cause_of why n)) e)
    go false e = inr (e, ap (λ u. cond u c (cause_of why n)) e)

pub other-is : {A : Type 0} (n k : Node) → n ≡ k → same_node n k ≡ false → A
other-is n k e f = no-other (same_node n k) (ap (λ z. same_node n z) (sym e) ∙ same-self n) f

pub some-not : {A : Type 0} (o : Option Node) (m : Node) → o ≡ None → o ≡ Some m → A
some-not o m e g = absurd (let z : None ≡ Some m = sym e ∙ g in cc)

module _ (touched : Touched) (code : Code) (before : Causes) (first : Notes) (right-first : (n : Node) → cause_at before n ≡ true → Holds touched code before n.0 n.1 n.2 → ReasonFor code n (cause_of before n) (first n)) where
  -- the cause is right where it is noted
  abbrev pub Right : Causes → Notes → Node → Type 0
  Right why on n = ReasonFor code n (cause_of why n) (on n)

  -- it is the one that was carried over
  abbrev pub IsOld : Causes → Notes → Node → Type 0
  IsOld why on n = (cause_of why n ≡ cause_of before n) × (on n ≡ first n)

  pub record Falling (c : Fall) : Type 0 where
    pub on : Notes
    pub ends : (n : Node) → Ends on n
    pub rest : (n m : Node) → cause_at c.why n ≡ true → on n ≡ Some m → (cause_at c.why m ≡ true) ⊎ Among m c.lost
    pub right : (n : Node) → cause_at c.why n ≡ true → Right c.why on n ⊎ (Among n c.todo × IsOld c.why on n)
    pub idle : (n : Node) (k : Cause) (o : Option Node) → cause_at c.why n ≡ false → ReasonFor code n k o → counts c.why o ≡ true → Among n c.asked
    pub kept : KeepLives c.asked before c.why

  -- a piece takes a cause that needs no other, or falls
  module _ (why : Causes) (todo lost asked todo' lost' asked' : List Node) (k : Node) (c : Cause) (f : Falling (falling why todo lost asked)) (more-todo : (n : Node) → same_node n k ≡ false → Among n todo → Among n todo') (more-lost : (n : Node) → Among n lost → Among n lost') (more-asked : (n : Node) → Among n asked → Among n asked') (sure : is_live c ≡ true → ReasonFor code k c None) (was : is_live c ≡ true → cause_at why k ≡ true) (goes : is_live c ≡ false → Among k lost' × Among k asked') where
    abbrev new : Causes
    new = given why k c

    abbrev on' : Notes
    on' = noted f.on k None

    still : (m : Node) → cause_at why m ≡ true → (cause_at new m ≡ true) ⊎ Among m lost'
    still m live = go (given-cases why k c m)
      where
        here-at : m ≡ k → cause_of new m ≡ c → (u : Bool) → is_live c ≡ u → (cause_at new m ≡ true) ⊎ Among m lost'
        here-at e g true h = inl (ap is_live g ∙ h)
        here-at e g false h = inr (subst (λ z. Among z lost') (sym e) (goes h).0)

        go : Given why k c m → (cause_at new m ≡ true) ⊎ Among m lost'
        go (inl x) = here-at x.1 x.2 (is_live c) refl
        go (inr x) = inl (ap is_live x.1 ∙ live)

    rest' : (n m : Node) → cause_at new n ≡ true → on' n ≡ Some m → (cause_at new m ≡ true) ⊎ Among m lost'
    rest' n m live e = go (given-cases why k c n)
      where
        more : (cause_at why m ≡ true) ⊎ Among m lost → (cause_at new m ≡ true) ⊎ Among m lost'
        more (inl h) = still m h
        more (inr a) = inr (more-lost m a)

        go : Given why k c n → (cause_at new m ≡ true) ⊎ Among m lost'
        go (inl x) = some-not (on' n) m (noted-here f.on k None n x.0) e
        go (inr x) = more (f.rest n m (ap is_live (sym x.1) ∙ live) (sym (noted-there f.on k None n x.0) ∙ e))

    right' : (n : Node) → cause_at new n ≡ true → Right new on' n ⊎ (Among n todo' × IsOld new on' n)
    right' n live = go (given-cases why k c n)
      where
        moves : same_node n k ≡ false → cause_of new n ≡ cause_of why n → Right why f.on n ⊎ (Among n todo × IsOld why f.on n) → Right new on' n ⊎ (Among n todo' × IsOld new on' n)
        moves o e (inl r) = inl (reason-moves r refl (sym e) (sym (noted-there f.on k None n o)))
        moves o e (inr x) = inr (more-todo n o x.0, (e ∙ x.1.0, noted-there f.on k None n o ∙ x.1.1))

        go : Given why k c n → Right new on' n ⊎ (Among n todo' × IsOld new on' n)
        go (inl x) =
            let r : ReasonFor code n c None = subst (λ (z : Node). ReasonFor code z c None) (sym x.1) (sure (ap is_live (sym x.2) ∙ live)) in
            inl (reason-moves r refl (sym x.2) (sym (noted-here f.on k None n x.0)))
        go (inr x) = moves x.0 x.1 (f.right n (ap is_live (sym x.1) ∙ live))

    -- what counts then counted before
    counted : (o : Option Node) → counts new o ≡ true → counts why o ≡ true
    counted None e = refl
    counted (Some m) e = go (given-cases why k c m)
      where
        go : Given why k c m → cause_at why m ≡ true
        go (inl x) = subst (λ (z : Node). cause_at why z ≡ true) (sym x.1) (was (ap is_live (sym x.2) ∙ e))
        go (inr x) = ap is_live (sym x.1) ∙ e

    idle' : (n : Node) (d : Cause) (o : Option Node) → cause_at new n ≡ false → ReasonFor code n d o → counts new o ≡ true → Among n asked'
    idle' n d o dead r live = go (given-cases why k c n)
      where
        go : Given why k c n → Among n asked'
        go (inl x) = subst (λ z. Among z asked') (sym x.1) (goes (ap is_live (sym x.2) ∙ dead)).1
        go (inr x) = more-asked n (f.idle n d o (ap is_live (sym x.1) ∙ dead) r (counted o live))

    kept' : KeepLives asked' before new
    kept' n = go (given-cases why k c n)
      where
        more : cause_at new n ≡ cause_at why n → Among n asked ⊎ (cause_at why n ≡ cause_at before n) → Among n asked' ⊎ (cause_at new n ≡ cause_at before n)
        more e (inl a) = inl (more-asked n a)
        more e (inr g) = inr (e ∙ g)

        here-at : n ≡ k → cause_of new n ≡ c → (u : Bool) → is_live c ≡ u → Among n asked' ⊎ (cause_at new n ≡ cause_at before n)
        here-at e g true h = more (ap is_live g ∙ h ∙ sym (subst (λ (z : Node). cause_at why z ≡ true) (sym e) (was h))) (f.kept n)
        here-at e g false h = inl (subst (λ z. Among z asked') (sym e) (goes h).1)

        go : Given why k c n → Among n asked' ⊎ (cause_at new n ≡ cause_at before n)
        go (inl x) = here-at x.1 x.2 (is_live c) refl
        go (inr x) = more (ap is_live x.1) (f.kept n)

    set-cause : Falling (falling new todo' lost' asked')
    set-cause = record { on = on'; ends = λ n. cut-law f.on k n (f.ends n); rest = rest'; right = right'; idle = idle'; kept = kept' }

  tail-of : (n k : Node) (ns : List Node) → same_node n k ≡ false → Among n (k ∷ ns) → Among n ns
  tail-of n k ns o a = go (among-cases n k ns a)
    where
      go : (n ≡ k) ⊎ Among n ns → Among n ns
      go (inl e) = other-is n k e o
      go (inr b) = b

  take-it : (why : Causes) (todo todo' lost asked : List Node) (k : Node) (c : Cause) → ((n : Node) → same_node n k ≡ false → Among n todo → Among n todo') → cause_at why k ≡ true → ReasonFor code k c None → Falling (falling why todo lost asked) → Falling (falling (given why k c) todo' lost asked)
  take-it why todo todo' lost asked k c more live r f =
      set-cause why todo lost asked todo' lost asked k c f more (λ n a. a) (λ n a. a) (λ h. r) (λ h. live) (λ h. no-other (is_live c) (reason-live r) h)

  fall-it : (why : Causes) (todo todo' lost asked : List Node) (k : Node) → ((n : Node) → same_node n k ≡ false → Among n todo → Among n todo') → Falling (falling why todo lost asked) → Falling (falling (given why k causes.None) todo' (lost ++ k ∷ []) (asked ++ k ∷ []))
  fall-it why todo todo' lost asked k more f =
      set-cause why todo lost asked todo' (lost ++ k ∷ []) (asked ++ k ∷ []) k causes.None f more (λ n a. among-left n lost (k ∷ []) a) (λ n a. among-left n asked (k ∷ []) a)
      (λ h. no-other false h refl) (λ h. no-other false h refl) (λ h. (among-right k lost (k ∷ []) here, among-right k asked (k ∷ []) here))

  -- a piece whose cause holds
  stay : (why : Causes) (n : Node) (ns ws qs : List Node) → Holds touched code why n.0 n.1 n.2 → Falling (falling why (n ∷ ns) ws qs) → Falling (falling why ns ws qs)
  stay why n ns ws qs h f = record { on = f.on; ends = f.ends; rest = f.rest; right = λ m live. go m live (f.right m live); idle = f.idle; kept = f.kept }
    where
      held : (m : Node) → m ≡ n → cause_at why m ≡ true → IsOld why f.on m → Right why f.on m
      held m e live old =
          let h' : Holds touched code why m.0 m.1 m.2 = subst (λ (z : Node). Holds touched code why z.0 z.1 z.2) (sym e) h in
          let r = right-first m (ap is_live (sym old.0) ∙ live) (holds-moves h' before (sym old.0)) in
          reason-moves r refl (sym old.0) (sym old.1)

      tail : (m : Node) → cause_at why m ≡ true → IsOld why f.on m → (m ≡ n) ⊎ Among m ns → Right why f.on m ⊎ (Among m ns × IsOld why f.on m)
      tail m live old (inl e) = inl (held m e live old)
      tail m live old (inr a) = inr (a, old)

      go : (m : Node) → cause_at why m ≡ true → Right why f.on m ⊎ (Among m (n ∷ ns) × IsOld why f.on m) → Right why f.on m ⊎ (Among m ns × IsOld why f.on m)
      go m live (inl r) = inl r
      go m live (inr x) = tail m live x.1 (among-cases m n ns x.0)

  -- nothing is live any more for the sake of a lost piece
  tell : (why : Causes) (w : Node) (ws qs : List Node) → ((n : Node) → ReasonFor code n (cause_of why n) (Some w) → ⊥) → Falling (falling why [] (w ∷ ws) qs) → Falling (falling why [] ws qs)
  tell why w ws qs none f = record { on = f.on; ends = f.ends; rest = λ n m live e. go n m live e (f.rest n m live e); right = f.right; idle = f.idle; kept = f.kept }
    where
      not-so : (n m : Node) → f.on n ≡ Some m → m ≡ w → Right why f.on n ⊎ (Among n [] × IsOld why f.on n) → ⊥
      not-so n m e g (inl r) = none n (reason-moves r refl refl (e ∙ ap Some g))
      not-so n m e g (inr x) = none-among n x.0

      tail : (n m : Node) → cause_at why n ≡ true → f.on n ≡ Some m → (m ≡ w) ⊎ Among m ws → (cause_at why m ≡ true) ⊎ Among m ws
      tail n m live e (inl g) = absurd (not-so n m e g (f.right n live))
      tail n m live e (inr a) = inr a

      go : (n m : Node) → cause_at why n ≡ true → f.on n ≡ Some m → (cause_at why m ≡ true) ⊎ Among m (w ∷ ws) → (cause_at why m ≡ true) ⊎ Among m ws
      go n m live e (inl h) = inl h
      go n m live e (inr a) = tail n m live e (among-cases m w ws a)

  pub fall-keeps : {c d : Fall} → FallStep touched code c d → Falling c → Falling d
  fall-keeps (stays {why = why} {n = n} {ns = ns} {ws = ws} {qs = qs} h) f = stay why n ns ws qs h f
  fall-keeps (takes {why = why} {n = n} {ns = ns} {ws = ws} {qs = qs} c live r) f = take-it why (n ∷ ns) ns ws qs n c (λ m o a. tail-of m n ns o a) live r f
  fall-keeps (falls {why = why} {n = n} {ns = ns} {ws = ws} {qs = qs}) f = fall-it why (n ∷ ns) ns ws qs n (λ m o a. tail-of m n ns o a) f
  fall-keeps (takes_too {why = why} {w = w} {ws = ws} {qs = qs} n c x r) f = take-it why [] [] (w ∷ ws) qs n c (λ m o a. a) (reason-live x) r f
  fall-keeps (falls_too {why = why} {w = w} {ws = ws} {qs = qs} n x) f = fall-it why [] [] (w ∷ ws) qs n (λ m o a. a) f
  fall-keeps (told {why = why} {w = w} {ws = ws} {qs = qs} none) f = tell why w ws qs none f

  pub falls-keep : {c d : Fall} → Falls touched code c d → Falling c → Falling d
  falls-keep fell f = f
  falls-keep (fall x xs) f = falls-keep xs (fall-keeps x f)

  -- where nothing is left, live pieces stand firm
  pub firm-after : (why : Causes) (asked : List Node) (f : Falling (falling why [] [] asked)) → StandFirm code why f.on
  firm-after why asked f = record { right = right; live = live; ends = λ n h. f.ends n }
    where
      at : (n : Node) → Right why f.on n ⊎ (Among n [] × IsOld why f.on n) → RestsOn code why n.0 n.1 n.2 (f.on n)
      at n (inl r) = rests r refl
      at n (inr x) = absurd (none-among n x.0)

      right : (n : Node) → cause_at why n ≡ true → RestsOn code why n.0 n.1 n.2 (f.on n)
      right n h = at n (f.right n h)

      go : (m : Node) → (cause_at why m ≡ true) ⊎ Among m [] → cause_at why m ≡ true
      go m (inl h) = h
      go m (inr a) = absurd (none-among m a)

      live : (n m : Node) → cause_at why n ≡ true → f.on n ≡ Some m → cause_at why m ≡ true
      live n m h e = go m (f.rest n m h e)
