-- Pieces with a reason that counts come alive, and all that leads to them: then nothing counts in a dead one.
use Rattle.std.proofs.Common.{◌≡◌, ◌⊎◌, ℕ, Bool, true, false, List, [], ◌∷◌, ◌++◌, Option, None, Some, refl, sym, ap, ◌∙◌, subst, inl, inr}
use Rattle.mir_meaning.specs.Paths.{Among, here, there, Code, steps_of}
use Rattle.live_lanes.specs.declared.row.Cause.{Cause}
use Rattle.live_lanes.specs.declared.row.Cause.TheVariants as causes
use Rattle.live_lanes.specs.Graph.{Causes, is_live, writes_in, IsClosed, IsGrown}
use Rattle.live_lanes.specs.Table.{Numbers}
use Rattle.live_lanes.specs.Entered.{IsNumbered}
use Rattle.live_lanes.specs.Laws.{AllMatched}
use Rattle.live_lanes.proofs.Basics.{none-among, among-append}
use Rattle.live_lanes.proofs.Numbered.{among-cases, among-left, among-right, among-split}
use Rattle.edit_laws.specs.Chains.{Node, Notes, cause_at, RestsOn, Ends, at_none, StandFirm, same_node, noted}
use Rattle.edit_laws.specs.Reasons.{for_reading, for_move, for_exit, for_end, for_phi, ReasonFor, cause_of, counts, Touched}
use Rattle.edit_laws.specs.Steps.{AreRight}
use Rattle.edit_laws.specs.Update.{Holds, given, Request, Wanted, HasReason, LeadTo, Rise, rising, RiseStep, passes, rises, follows, Rises, rose, rise, falling, Falls, Asks, IsUpdated, KeepLives, AreUpdated, UpdateLaw}
use Rattle.edit_laws.proofs.Chains.{noted-here, noted-there, cut-law, rise-law, firm-law}
use Rattle.edit_laws.proofs.Carried.{reason-live, matched-written, first_notes, all-chained, all-live, all-right, all-hold, all-listed}
use Rattle.edit_laws.proofs.Fallen.{no-other, rests, reason-of, Given, given-cases, other-is, Falling, falls-keep, firm-after}

module _ (code : Code) (before : Causes) where
  pub record Rising (c : Rise) : Type 0 where
    pub on : Notes
    pub firm : StandFirm code c.why on
    pub reasons : (r : Request) → Among r c.queue → HasReason code c.why r
    pub alive : (m : Node) → Among m c.risen → cause_at c.why m ≡ true
    pub whole : (n : Node) (d : Cause) (o : Option Node) → cause_at c.why n ≡ false → ReasonFor code n d o → counts c.why o ≡ true → Wanted n c.queue ⊎ ((m : Node) × (o ≡ Some m) × Among m c.risen)
    pub kept : KeepLives c.changed before c.why

  pass : (why : Causes) (r : Request) (q : List Request) (ms cs : List Node) → cause_at why r.node ≡ true → Rising (rising why (r ∷ q) ms cs) → Rising (rising why q ms cs)
  pass why r q ms cs live f = record { on = f.on; firm = f.firm; reasons = λ p a. f.reasons p (there a); alive = f.alive; whole = λ n d o dead x k. go n o dead (f.whole n d o dead x k); kept = f.kept }
    where
      head : (n : Node) → cause_at why n ≡ false → (p : Request) → p.node ≡ n → (p ≡ r) ⊎ Among p q → Wanted n q
      head n dead p e (inl g) = no-other (cause_at why n) (subst (λ (z : Node). cause_at why z ≡ true) (ap (λ (z : Request). z.node) (sym g) ∙ e) live) dead
      head n dead p e (inr a) = (p, a, e)

      go : (n : Node) (o : Option Node) → cause_at why n ≡ false → Wanted n (r ∷ q) ⊎ ((m : Node) × (o ≡ Some m) × Among m ms) → Wanted n q ⊎ ((m : Node) × (o ≡ Some m) × Among m ms)
      go n o dead (inl w) = inl (head n dead w.0 w.2 (among-cases w.0 r q w.1))
      go n o dead (inr x) = inr x

  -- a piece comes alive
  module _ (why : Causes) (r : Request) (q : List Request) (ms cs : List Node) (dead : cause_at why r.node ≡ false) (f : Rising (rising why (r ∷ q) ms cs)) where
    abbrev new : Causes
    new = given why r.node r.cause

    reason : HasReason code why r
    reason = f.reasons r here

    abbrev on' : Notes
    on' = noted f.on r.node reason.0

    risen-live : is_live r.cause ≡ true
    risen-live = reason-live reason.1

    still : (m : Node) → cause_at why m ≡ true → cause_at new m ≡ true
    still m live = go (given-cases why r.node r.cause m)
      where
        go : Given why r.node r.cause m → cause_at new m ≡ true
        go (inl x) = ap is_live x.2 ∙ risen-live
        go (inr x) = ap is_live x.1 ∙ live

    counts-still : (o : Option Node) → counts why o ≡ true → counts new o ≡ true
    counts-still None e = refl
    counts-still (Some m) e = still m e

    right' : (n : Node) → cause_at new n ≡ true → RestsOn code new n.0 n.1 n.2 (on' n)
    right' n live = go (given-cases why r.node r.cause n)
      where
        old : RestsOn code why n.0 n.1 n.2 (f.on n) → cause_of new n ≡ cause_of why n → on' n ≡ f.on n → RestsOn code new n.0 n.1 n.2 (on' n)
        old x e g = subst (λ o. RestsOn code new n.0 n.1 n.2 o) (sym g) (rests (reason-of x) e)

        go : Given why r.node r.cause n → RestsOn code new n.0 n.1 n.2 (on' n)
        go (inl x) =
            let y : ReasonFor code n r.cause reason.0 = subst (λ (z : Node). ReasonFor code z r.cause reason.0) (sym x.1) reason.1 in
            subst (λ o. RestsOn code new n.0 n.1 n.2 o) (sym (noted-here f.on r.node reason.0 n x.0)) (rests y x.2)
        go (inr x) = old (f.firm.right n (ap is_live (sym x.1) ∙ live)) x.1 (noted-there f.on r.node reason.0 n x.0)

    live' : (n m : Node) → cause_at new n ≡ true → on' n ≡ Some m → cause_at new m ≡ true
    live' n m live e = go (given-cases why r.node r.cause n)
      where
        go : Given why r.node r.cause n → cause_at new m ≡ true
        go (inl x) = counts-still (Some m) (subst (λ o. counts why o ≡ true) (sym (noted-here f.on r.node reason.0 n x.0) ∙ e) reason.2)
        go (inr x) = still m (f.firm.live n m (ap is_live (sym x.1) ∙ live) (sym (noted-there f.on r.node reason.0 n x.0) ∙ e))

    ends' : (n : Node) → cause_at new n ≡ true → Ends on' n
    ends' n live = go (given-cases why r.node r.cause n) reason.0 refl
      where
        go : Given why r.node r.cause n → (o : Option Node) → reason.0 ≡ o → Ends on' n
        go (inl x) None e = at_none (noted-here f.on r.node reason.0 n x.0 ∙ e)
        go (inl x) (Some m) e =
            let up : counts why (Some m) ≡ true = subst (λ o. counts why o ≡ true) e reason.2 in
            let h = rise-law f.on (cause_at why) f.firm.live r.node m dead up (f.firm.ends m up) in
            subst (λ o. Ends (noted f.on r.node o) n) (sym e) (subst (λ (z : Node). Ends (noted f.on r.node (Some m)) z) (sym x.1) h.1)
        go (inr x) None e = subst (λ o. Ends (noted f.on r.node o) n) (sym e) (cut-law f.on r.node n (f.firm.ends n (ap is_live (sym x.1) ∙ live)))
        go (inr x) (Some m) e =
            let up : counts why (Some m) ≡ true = subst (λ o. counts why o ≡ true) e reason.2 in
            let alive : cause_at why n ≡ true = ap is_live (sym x.1) ∙ live in
            let h = rise-law f.on (cause_at why) f.firm.live r.node m dead up (f.firm.ends m up) in
            subst (λ o. Ends (noted f.on r.node o) n) (sym e) (h.0 n alive (f.firm.ends n alive))

    reasons' : (p : Request) → Among p q → HasReason code new p
    reasons' p a = let x = f.reasons p (there a) in (x.0, x.1, counts-still x.0 x.2)

    alive' : (m : Node) → Among m (ms ++ r.node ∷ []) → cause_at new m ≡ true
    alive' m a = go (among-split m ms (r.node ∷ []) a)
      where
        last : (m ≡ r.node) ⊎ Among m [] → Given why r.node r.cause m → cause_at new m ≡ true
        last o (inl x) = ap is_live x.2 ∙ risen-live
        last (inl e) (inr x) = other-is m r.node e x.0
        last (inr b) (inr x) = absurd (none-among m b)

        go : Among m ms ⊎ Among m (r.node ∷ []) → cause_at new m ≡ true
        go (inl b) = still m (f.alive m b)
        go (inr b) = last (among-cases m r.node [] b) (given-cases why r.node r.cause m)

    abbrev Left : Node → Option Node → Type 0
    Left n o = Wanted n q ⊎ ((m : Node) × (o ≡ Some m) × Among m (ms ++ r.node ∷ []))

    left : (n : Node) (o : Option Node) → same_node n r.node ≡ false → Wanted n (r ∷ q) ⊎ ((m : Node) × (o ≡ Some m) × Among m ms) → Left n o
    left n o other (inl w) = go (among-cases w.0 r q w.1)
      where
        go : (w.0 ≡ r) ⊎ Among w.0 q → Left n o
        go (inl e) = other-is n r.node (sym w.2 ∙ ap (λ (z : Request). z.node) e) other
        go (inr a) = inl (w.0, a, w.2)
    left n o other (inr x) = inr (x.0, x.1, among-left x.0 ms (r.node ∷ []) x.2)

    whole' : (n : Node) (d : Cause) (o : Option Node) → cause_at new n ≡ false → ReasonFor code n d o → counts new o ≡ true → Left n o
    whole' n d o low x up = go (given-cases why r.node r.cause n)
      where
        was : same_node n r.node ≡ false → cause_at why n ≡ false → counts why o ≡ true → Left n o
        was other e h = left n o other (f.whole n d o e x h)

        target : same_node n r.node ≡ false → cause_at why n ≡ false → (p : Option Node) → o ≡ p → counts new p ≡ true → Left n o
        target other e None g h = was other e (subst (λ z. counts why z ≡ true) (sym g) refl)
        target other e (Some m) g h = by-case (given-cases why r.node r.cause m)
          where
            by-case : Given why r.node r.cause m → Left n o
            by-case (inl y) = inr (m, g, subst (λ z. Among z (ms ++ r.node ∷ [])) (sym y.1) (among-right r.node ms (r.node ∷ []) here))
            by-case (inr y) = was other e (subst (λ z. counts why z ≡ true) (sym g) (ap is_live (sym y.1) ∙ h))

        go : Given why r.node r.cause n → Left n o
        go (inl y) = no-other (is_live r.cause) risen-live (ap is_live (sym y.2) ∙ low)
        go (inr y) = target y.0 (ap is_live (sym y.1) ∙ low) o refl up

    kept' : KeepLives (cs ++ r.node ∷ []) before new
    kept' n = go (given-cases why r.node r.cause n)
      where
        more : cause_at new n ≡ cause_at why n → Among n cs ⊎ (cause_at why n ≡ cause_at before n) → Among n (cs ++ r.node ∷ []) ⊎ (cause_at new n ≡ cause_at before n)
        more e (inl a) = inl (among-left n cs (r.node ∷ []) a)
        more e (inr g) = inr (e ∙ g)

        go : Given why r.node r.cause n → Among n (cs ++ r.node ∷ []) ⊎ (cause_at new n ≡ cause_at before n)
        go (inl x) = inl (subst (λ z. Among z (cs ++ r.node ∷ [])) (sym x.1) (among-right r.node cs (r.node ∷ []) here))
        go (inr x) = more (ap is_live x.1) (f.kept n)

    risen : Rising (rising new q (ms ++ r.node ∷ []) (cs ++ r.node ∷ []))
    risen = record { on = on'; firm = record { right = right'; live = live'; ends = ends' }; reasons = reasons'; alive = alive'; whole = whole'; kept = kept' }

  -- what leads to a piece that came alive is asked for
  follow : (why : Causes) (m : Node) (ms cs : List Node) (q : List Request) → LeadTo code m q → Rising (rising why [] (m ∷ ms) cs) → Rising (rising why q ms cs)
  follow why m ms cs q lead f = record {
    on = f.on;
    firm = f.firm;
    reasons = λ r a. (Some m, lead.reasons r a, f.alive m here);
    alive = λ n a. f.alive n (there a);
    whole = λ n d o dead x k. go n d o x (f.whole n d o dead x k);
    kept = f.kept;
  }
    where
      tail : (n : Node) (d : Cause) (o : Option Node) → ReasonFor code n d o → (t : Node) → o ≡ Some t → (t ≡ m) ⊎ Among t ms → Wanted n q ⊎ ((t : Node) × (o ≡ Some t) × Among t ms)
      tail n d o x t e (inl g) = inl (lead.whole n d (subst (λ z. ReasonFor code n d z) (e ∙ ap Some g) x))
      tail n d o x t e (inr a) = inr (t, e, a)

      go : (n : Node) (d : Cause) (o : Option Node) → ReasonFor code n d o → Wanted n [] ⊎ ((t : Node) × (o ≡ Some t) × Among t (m ∷ ms)) → Wanted n q ⊎ ((t : Node) × (o ≡ Some t) × Among t ms)
      go n d o x (inl w) = absurd (none-among w.0 w.1)
      go n d o x (inr y) = tail n d o x y.0 y.1 (among-cases y.0 m ms y.2)

  rise-keeps : {c d : Rise} → RiseStep code c d → Rising c → Rising d
  rise-keeps (passes {why = why} {r = r} {q = q} {ms = ms} {cs = cs} live) f = pass why r q ms cs live f
  rise-keeps (rises {why = why} {r = r} {q = q} {ms = ms} {cs = cs} dead) f = risen why r q ms cs dead f
  rise-keeps (follows {why = why} {m = m} {ms = ms} {cs = cs} q lead) f = follow why m ms cs q lead f

  rises-keep : {c d : Rise} → Rises code c d → Rising c → Rising d
  rises-keep rose f = f
  rises-keep (rise x xs) f = rises-keep xs (rise-keeps x f)

  -- where nothing is left, nothing counts in a dead piece
  module _ (why : Causes) (cs : List Node) (f : Rising (rising why [] [] cs)) (matched : AllMatched code) where
    idle : (n : Node) (d : Cause) (o : Option Node) → ReasonFor code n d o → counts why o ≡ true → cause_at why n ≡ true
    idle n d o x up = go (cause_at why n) refl
      where
        none : Wanted n [] ⊎ ((m : Node) × (o ≡ Some m) × Among m []) → ⊥
        none (inl w) = none-among w.0 w.1
        none (inr y) = none-among y.0 y.2

        go : (u : Bool) → cause_at why n ≡ u → u ≡ true
        go true e = refl
        go false e = absurd (none (f.whole n d o e x up))

    closed : IsClosed code why
    closed = record {
      reading = λ b l us s vs e u. idle (l, b, writes_in l us) (causes.Reading s.id) None (for_reading us s vs e u) refl;
      move = λ b l a us s vs e u live. idle (l, b, writes_in l us) (causes.Reading s.id) (Some (a, b, writes_in a (us ++ s ∷ []))) (for_move us s vs e u (matched-written s l a (matched b s (subst (Among s) (sym e) (among-append s us vs))) u)) live;
      exit = λ b l x us s vs e t m live. idle (l, b, writes_in l (us ++ s ∷ [])) (causes.Follower x) (Some (l, x, 0)) (for_exit us s vs e t m) live;
      end = λ b l x m live. idle (l, b, writes_in l (steps_of code b)) (causes.Follower x) (Some (l, x, 0)) (for_end m) live;
      phi = λ b l m. idle (l, b, writes_in l (steps_of code b)) causes.Phi None (for_phi m) refl;
    }

    grown-now : IsGrown code why
    grown-now = record { closed = closed; founded = firm-law code why f.on f.firm }

    right-now : (test : ℕ → Bool) → AreRight test code why
    right-now test = record {
      reading = λ b l o us s vs e u. closed.reading b l us s vs e u;
      move = λ b l a o us s vs e u live. closed.move b l a us s vs e u live;
      exit = λ b l x o us s vs e t m live. closed.exit b l x us s vs e t m live;
      end = λ b l x o m live. closed.end b l x m live;
      phi = λ b l o m. closed.phi b l m;
      founded = λ l b n o live. firm-law code why f.on f.firm l b n live;
    }

    updated : AreUpdated code before why cs
    updated = record { notes = f.on; firm = f.firm; grown = grown-now; right = right-now; kept = f.kept }

-- from where causes fall to where they have risen
module _ (touched : Touched) (now : Code) (before between after : Causes) (list asked changed : List Node) (queue : List Request) (first : Notes) (hold : (n : Node) → cause_at before n ≡ true → Holds touched now before n.0 n.1 n.2 → ReasonFor now n (cause_of before n) (first n)) (start : Falling touched now before first hold (falling before list [] list)) (falls : Falls touched now (falling before list [] list) (falling between [] [] asked)) (asks : Asks now between asked queue) (rises : Rises now (rising between queue [] asked) (rising after [] [] changed)) where
  fallen : Falling touched now before first hold (falling between [] [] asked)
  fallen = falls-keep touched now before first hold falls start

  to-rise : Rising now before (rising between queue [] asked)
  to-rise = record {
    on = fallen.on;
    firm = firm-after touched now before first hold between asked fallen;
    reasons = asks.founded;
    alive = λ m a. absurd (none-among m a);
    whole = λ n d o dead x up. inl (asks.whole n (fallen.idle n d o dead x up) dead d o x up);
    kept = fallen.kept;
  }

  pub brought-up : AllMatched now → AreUpdated now before after changed
  brought-up matched = updated now before after changed (rises-keep now before rises to-rise) matched

module _ (touched : Touched) (old now : Code) (slots slots' : Numbers) (was before after : Causes) (changed : List Node) (grown : IsGrown old was) (numbered : IsNumbered old slots) (numbered' : IsNumbered now slots') (matched : AllMatched now) (u : IsUpdated touched old now was before after changed) where
  abbrev first : Notes
  first = first_notes old now before

  hold : (n : Node) → cause_at before n ≡ true → Holds touched now before n.0 n.1 n.2 → ReasonFor now n (cause_of before n) (first n)
  hold n live h = all-hold touched old now slots slots' was before grown numbered numbered' matched u.edited u.carried u.list u.listed n live h

  carried-over : Falling touched now before first hold (falling before u.list [] u.list)
  carried-over = record {
    on = first;
    ends = λ n. all-chained touched old now slots slots' was before grown numbered numbered' matched u.edited u.carried u.list u.listed n;
    rest = λ n m live e. inl (all-live touched old now slots slots' was before grown numbered numbered' matched u.edited u.carried u.list u.listed n m e);
    right = λ n live. go n (all-right touched old now slots slots' was before grown numbered numbered' matched u.edited u.carried u.list u.listed n live);
    idle = λ n k o dead r up. all-listed touched old now slots slots' was before grown numbered numbered' matched u.edited u.carried u.list u.listed n k o dead r up;
    kept = λ n. inr refl;
  }
    where
      go : (n : Node) → ReasonFor now n (cause_of before n) (first n) ⊎ Among n u.list → ReasonFor now n (cause_of before n) (first n) ⊎ (Among n u.list × ((cause_of before n ≡ cause_of before n) × (first n ≡ first n)))
      go n (inl r) = inl r
      go n (inr a) = inr (a, (refl, refl))

  updated-after : AreUpdated now before after changed
  updated-after = brought-up touched now before u.between after u.list u.asked changed u.queue first hold carried-over u.falls u.asks u.rises matched

pub update-law : UpdateLaw
update-law touched old now slots slots' was before after changed grown numbered numbered' matched u = updated-after touched old now slots slots' was before after changed grown numbered numbered' matched u
