-- What openings find in any run over stores, and the headline over it.
use Rattle.std.proofs.Common.{◌≡◌, inl, inr, ℕ, Bool, true, false, cond, Option, Some, None, List, [], ◌∷◌, ◌++◌, length, reverse, refl, sym, ap, subst, ◌∙◌, arith, option_to_list, eqb-true, eq-eqb, length-append}
use Rattle.std.specs.Prelude.{◌==◌, option_map}
use Rattle.std.proofs.lemmas.Bool.{cond_both, false≢true}
use Rattle.std.proofs.lemmas.List.{append_assoc, reverse-append, reverse-reverse, length-reverse, nil_from_length}
use Rattle.messages.specs.Framing.{message_of}
use Rattle.protocol.specs.Tags.{Setting}
use Rattle.protocol.specs.Messages.{Record}
use Rattle.protocol.specs.State.{Node, Rule, DecideByBundle}
use Rattle.protocol.specs.Restart.{opened}
use Rattle.protocol.specs.Arrivals.{arrival}
use Rattle.protocol.specs.World.{World, Cut, InArrival, InFiring, Event, Sends, Comes, Fires, Asks, Resends, Restarts, run, beginning, tried, cut_record, with_node, delivered}
use Rattle.protocol.specs.Premises.{Honesty, Unforged, Distinct, IsCorrect, Begins}
use Rattle.protocol.specs.Laws.{Comparable}
use Rattle.protocol.specs.Values.{of, fresh, in_turn}
use Rattle.protocol.proofs.Arrivals.{come_cases, try_cases, cut_cases}
use Rattle.protocol.proofs.Growth.{run_append}
use Rattle.protocol.proofs.Headline.{begins_law}
use Rattle.vote_journal.specs.declared.fault.JournalFault.{JournalFault}
use Rattle.vote_journal.specs.Order.{may_follow}
use Rattle.vote_journal.specs.Laws.{EachFollows, EachMade, IsLawful}
use Rattle.vote_journal.specs.History.{Call, Opened, NotOpened, Saved, NotSaved, Broken, Left, is_open, known, doubtful, HasOpened, MaySave, Does}
use Rattle.vote_journal.specs.Stopping.{Deed, Goes, Starves, Breaks, Stops, Fails, Opens, Stored, wrote, call_of, world_after, at_call, after, ends, begun, found_cut, events_by, events_of, IsJournalOf, Fits, MayHappen, IsCalled, Happen, BeginsEmpty, StoppedLaw, StoppedHeadlineLaw}
use Rattle.vote_journal.proofs.Following.{record_fits, fired_lawful, taken_lawful, opened_lawful}
use Rattle.vote_journal.proofs.History.{Stands, settled, goes_on, finds, never_bad}

pub split : (b : Bool) (P : Bool → Type 0) → (b ≡ true → P true) → (b ≡ false → P false) → P b
split true P t f = t refl
split false P t f = f refl

-- an open journal is in no doubt
open_certain : (calls : List Call) → is_open calls ≡ true → (r : Record) → doubtful calls ≡ Some r → ⊥
open_certain [] up r d = absurd cc
open_certain (Opened rs ∷ calls) up r d = absurd cc
open_certain (Saved q ∷ calls) up r d = open_certain calls up r d
open_certain (NotSaved q ∷ calls) up r d = open_certain calls up r d
open_certain (NotOpened fault ∷ calls) up r d = absurd cc
open_certain (Broken q ∷ calls) up r d = absurd cc
open_certain (Left ∷ calls) up r d = absurd cc

pub newest : (j : List Record) (r : Record) → reverse (reverse j ++ r ∷ []) ≡ r ∷ j
newest j r = reverse-append (reverse j) (r ∷ []) ∙ ap (λ x. r ∷ x) (reverse-reverse j)

pub oldest : (j : List Record) (r : Record) → reverse (r ∷ j) ≡ reverse j ++ r ∷ []
oldest j r = reverse-append (r ∷ []) j

-- ---- what a node saves

module _ (c : Setting) (p : ℕ) (n : Node) where
  pub wrote_is : (cut : Cut) → cut_record c p n (Some cut) ≡ option_to_list (wrote c p n cut)
  wrote_is (InArrival bytes) = refl
  wrote_is (InFiring k) = refl

  cut_follows : (cut : Option Cut) → IsLawful c p n → EachFollows c.powers (cut_record c p n cut ++ n.journal)
  cut_follows cut l = cut_cases c p n cut (λ rs. EachFollows c.powers (rs ++ n.journal)) l.follows (λ k h _. (fired_lawful c p n k l h).follows)

  cut_made : (cut : Option Cut) → IsLawful c p n → EachMade p (cut_record c p n cut ++ n.journal)
  cut_made cut l = cut_cases c p n cut (λ rs. EachMade p (rs ++ n.journal)) l.made (λ k h _. (fired_lawful c p n k l h).made)

  -- what it saves is lawful behind its journal
  pub saves_lawful : (cut : Cut) (r : Record) → IsLawful c p n → wrote c p n cut ≡ Some r → EachFollows c.powers (r ∷ n.journal) × EachMade p (r ∷ n.journal)
  saves_lawful cut r l e =
      let one : cut_record c p n (Some cut) ≡ r ∷ [] = wrote_is cut ∙ ap option_to_list e in (
        subst (λ (x : List Record). EachFollows c.powers (x ++ n.journal)) one (cut_follows (Some cut) l),
        subst (λ (x : List Record). EachMade p (x ++ n.journal)) one (cut_made (Some cut) l),
      )

  come_lawful : (bytes : List ℕ) → IsLawful c p n → IsLawful c p (arrival c p n bytes).node
  come_lawful bytes l = come_cases c p n (message_of bytes) (λ o. IsLawful c p o.node) l (λ m b _ _ t. taken_lawful c p n m b l t) (λ m b _ _ h. fired_lawful c p n (DecideByBundle b) l h)

  pub come_journal : (bytes : List ℕ) → (arrival c p n bytes).node.journal ≡ option_to_list (arrival c p n bytes).wrote ++ n.journal
  come_journal bytes = come_cases c p n (message_of bytes) (λ o. o.node.journal ≡ option_to_list o.wrote ++ n.journal) refl (λ m b _ _ _. refl) (λ m b _ _ _. refl)

  try_lawful : (k : Rule) → IsLawful c p n → IsLawful c p (tried c p n k).node
  try_lawful k l = try_cases c p n k (λ o. IsLawful c p o.node) l (λ _ h. fired_lawful c p n k l h)

  pub try_journal : (k : Rule) → (tried c p n k).node.journal ≡ option_to_list (tried c p n k).wrote ++ n.journal
  try_journal k = try_cases c p n k (λ o. o.node.journal ≡ option_to_list o.wrote ++ n.journal) refl (λ _ _. refl)

  -- the cut that an opening's records tell of is the one that they came by
  restarted : (broken : Option Cut) (rs : List Record) → IsJournalOf c p n broken rs → reverse rs ≡ cut_record c p n (found_cut rs n.journal broken) ++ n.journal
  restarted broken rs (inl e) =
      cond_both (length rs == length n.journal) None broken (λ cut. reverse rs ≡ cut_record c p n cut ++ n.journal) (λ _. e)
      (λ f. absurd (false≢true (sym f ∙ eq-eqb (length rs) (length n.journal) (sym (length-reverse rs) ∙ ap length e))))
  restarted broken rs (inr w) =
      let more = cut_record c p n (Some w.0) in
      cond_both (length rs == length n.journal) None broken (λ cut. reverse rs ≡ cut_record c p n cut ++ n.journal)
      (λ t. w.2 ∙ ap (λ (x : List Record). x ++ n.journal) (nil_from_length more (omega (arith, eqb-true _ _ t, length-reverse rs, ap length w.2, length-append more n.journal))))
      (λ _. subst (λ (cut : Option Cut). reverse rs ≡ cut_record c p n cut ++ n.journal) (sym w.1) w.2)

-- what the headline says of two moments and a validator
abbrev IsHeadline : Setting → Honesty → World → World → ℕ → Type 0
IsHeadline c h old new p =
    Begins (delivered old p) (delivered new p)
    × ((q : ℕ) → IsCorrect c h q → Comparable (delivered old p) (delivered new q))
    × ((client : ℕ) → in_turn fresh (of client (delivered new p)) ≡ true)
    × ((client : ℕ) → h.clients client ≡ true → Begins (of client (delivered new p)) (new.sent client))

-- ---- one validator over its store

module _ {S : Type 0} (seen : S → List ℕ) (may_leave : S → List ℕ → Type 0) (c : Setting) where
  -- The calls come to the node's journal, and what they leave in doubt is what it was saving as it broke.
  pub record Agrees (p : ℕ) (n : Node) (calls : List Call) (store : S) (broken : Option Cut) : Type 0 where
    pub lawful : IsLawful c p n
    pub stands : Stands seen may_leave c.powers p [] calls store
    pub knows : known [] calls ≡ reverse n.journal
    pub doubts : (r : Record) → doubtful calls ≡ Some r → (cut : Cut) × (broken ≡ Some cut) × (wrote c p n cut ≡ Some r)

  may_save : (p : ℕ) (n : Node) (calls : List Call) (store : S) (broken : Option Cut) (cut : Cut) (r : Record) → Agrees p n calls store broken → is_open calls ≡ true → wrote c p n cut ≡ Some r → Fits p r
      → MaySave seen may_leave c.powers p [] calls r
  may_save p n calls store broken cut r a up e f =
      let l = saves_lawful c p n cut r a.lawful e in
      (up, record_fits p r n.journal f l.1, ap (λ (x : List Record). may_follow c.powers x r) (ap reverse a.knows ∙ reverse-reverse n.journal) ∙ l.0.0)

  -- an event that saves nothing, and one whose record is saved
  goes : (p : ℕ) (n m : Node) (calls : List Call) (store : S) (broken : Option Cut) → Agrees p n calls store broken → is_open calls ≡ true → IsLawful c p m → m.journal ≡ n.journal → Agrees p m calls store broken
  goes p n m calls store broken a up l e = record { lawful = l; stands = a.stands; knows = a.knows ∙ ap reverse (sym e); doubts = λ r d. absurd (open_certain calls up r d) }

  saves : (p : ℕ) (n m : Node) (calls : List Call) (store new : S) (broken : Option Cut) (cut : Cut) (r : Record) → Agrees p n calls store broken → is_open calls ≡ true → IsLawful c p m → m.journal ≡ r ∷ n.journal → wrote c p n cut ≡ Some r
      → Fits p r → Does seen may_leave c.powers p (Saved r) store new → Agrees p m (Saved r ∷ calls) new broken
  saves p n m calls store new broken cut r a up l j e f does = record {
    lawful = l;
    stands = goes_on seen may_leave c.powers p [] calls (Saved r) store new a.stands (may_save p n calls store broken cut r a up e f, does);
    knows = ap (λ (x : List Record). x ++ r ∷ []) a.knows ∙ sym (oldest n.journal r) ∙ ap reverse (sym j);
    doubts = λ q d. absurd (open_certain calls up q d);
  }

  starves : (p : ℕ) (n : Node) (calls : List Call) (store new : S) (broken : Option Cut) (r : Record) → Agrees p n calls store broken → Does seen may_leave c.powers p (NotSaved r) store new → Agrees p n (NotSaved r ∷ calls) new broken
  starves p n calls store new broken r a does = record {
    lawful = a.lawful;
    stands = goes_on seen may_leave c.powers p [] calls (NotSaved r) store new a.stands (tt, does);
    knows = a.knows;
    doubts = a.doubts;
  }

  breaks : (p : ℕ) (n : Node) (calls : List Call) (store new : S) (broken : Option Cut) (cut : Cut) (r : Record) → Agrees p n calls store broken → is_open calls ≡ true → wrote c p n cut ≡ Some r → Fits p r
      → Does seen may_leave c.powers p (Broken r) store new → Agrees p n (Broken r ∷ calls) new (Some cut)
  breaks p n calls store new broken cut r a up e f does = record {
    lawful = a.lawful;
    stands = goes_on seen may_leave c.powers p [] calls (Broken r) store new a.stands (may_save p n calls store broken cut r a up e f, does);
    knows = a.knows;
    doubts = λ q d. (cut, refl, e ∙ d);
  }

  stops : (p : ℕ) (n : Node) (calls : List Call) (store new : S) (broken : Option Cut) → Agrees p n calls store broken → Does seen may_leave c.powers p Left store new → Agrees p n (Left ∷ calls) new broken
  stops p n calls store new broken a does = record {
    lawful = a.lawful;
    stands = goes_on seen may_leave c.powers p [] calls Left store new a.stands (tt, does);
    knows = a.knows;
    doubts = a.doubts;
  }

  fails : (p : ℕ) (n : Node) (calls : List Call) (store new : S) (broken : Option Cut) (fault : JournalFault) → Agrees p n calls store broken → Does seen may_leave c.powers p (NotOpened fault) store new → Agrees p n (NotOpened fault ∷ calls) new broken
  fails p n calls store new broken fault a does = record {
    lawful = a.lawful;
    stands = goes_on seen may_leave c.powers p [] calls (NotOpened fault) store new a.stands (tt, does);
    knows = a.knows;
    doubts = a.doubts;
  }

  -- what an opening finds
  finding : (p : ℕ) (n : Node) (calls : List Call) (store new : S) (broken : Option Cut) (rs : List Record) → Agrees p n calls store broken → HasOpened seen may_leave c.powers p store new rs → IsJournalOf c p n broken rs
  finding p n calls store new broken rs a o = elim (finds seen may_leave c.powers p [] calls store new rs a.stands o) [
    | inl e ↦ inl (ap reverse (e ∙ a.knows) ∙ reverse-reverse n.journal)
    | inr w ↦ (let d = a.doubts w.0 w.1 in inr (
      d.0,
      d.1,
      ap reverse (w.2 ∙ ap (λ (x : List Record). x ++ w.0 ∷ []) a.knows) ∙ newest n.journal w.0 ∙ ap (λ (x : List Record). x ++ n.journal) (sym (wrote_is c p n d.0 ∙ ap option_to_list d.2)),
    ))
  ]

  opens : (p : ℕ) (n : Node) (calls : List Call) (store new : S) (broken : Option Cut) (rs : List Record) → Agrees p n calls store broken → Does seen may_leave c.powers p (Opened rs) store new → Agrees p (opened p (reverse rs)) (Opened rs ∷ calls) new None
  opens p n calls store new broken rs a does =
      let found = found_cut rs n.journal broken in
      let is : cut_record c p n found ++ n.journal ≡ reverse rs = sym (restarted c p n broken rs (finding p n calls store new broken rs a does)) in
      record {
        lawful = opened_lawful c p (reverse rs) (subst (EachFollows c.powers) is (cut_follows c p n found a.lawful)) (subst (EachMade p) is (cut_made c p n found a.lawful));
        stands = goes_on seen may_leave c.powers p [] calls (Opened rs) store new a.stands (tt, does);
        knows = sym (reverse-reverse rs);
        doubts = λ r d. absurd cc;
      }

  -- ---- all validators

  abbrev pub AllAgree : Stored S → Type 0
  AllAgree d = (q : ℕ) → Agrees q (d.world.nodes q) (d.calls q) (d.store q) (d.broken q)

  abbrev AgreesAfter : Stored S → Deed → S → ℕ → Type 0
  AgreesAfter d deed new q = let e : Stored S = after c d deed new in Agrees q (e.world.nodes q) (e.calls q) (e.store q) (e.broken q)

  -- a node goes on, and what it wrote is saved
  moves : (d : Stored S) (p : ℕ) (m : Node) (cut : Cut) (w : Option Record) (new : S) → AllAgree d → is_open (d.calls p) ≡ true → IsLawful c p m → wrote c p (d.world.nodes p) cut ≡ w → m.journal ≡ option_to_list w ++ (d.world.nodes p).journal
      → IsCalled seen may_leave c d (option_map (λ r. (p, Saved r)) w) new → (q : ℕ)
      → Agrees q (cond (q == p) m (d.world.nodes q)) (at_call d.calls (option_map (λ r. (p, Saved r)) w) (λ i call. call ∷ d.calls i) q) (at_call d.store (option_map (λ r. (p, Saved r)) w) (λ i call. new) q) (d.broken q)
  moves d p m cut None new a up l e j is q =
      cond_both (q == p) m (d.world.nodes q) (λ (n : Node). Agrees q n (d.calls q) (d.store q) (d.broken q))
      (λ t. subst (λ i. Agrees i m (d.calls i) (d.store i) (d.broken i)) (sym (eqb-true q p t)) (goes p (d.world.nodes p) m (d.calls p) (d.store p) (d.broken p) (a p) up l j))
      (λ _. a q)
  moves d p m cut (Some r) new a up l e j is q =
      split (q == p) (λ b. Agrees q (cond b m (d.world.nodes q)) (cond b (Saved r ∷ d.calls p) (d.calls q)) (cond b new (d.store q)) (d.broken q))
      (λ t. subst (λ i. Agrees i m (Saved r ∷ d.calls p) new (d.broken i)) (sym (eqb-true q p t)) (saves p (d.world.nodes p) m (d.calls p) (d.store p) new (d.broken p) cut r (a p) up l j e is.0 is.1))
      (λ _. a q)

  starved : (d : Stored S) (p : ℕ) (w : Option Record) (new : S) → AllAgree d → IsCalled seen may_leave c d (option_map (λ r. (p, NotSaved r)) w) new → (q : ℕ)
      → Agrees q (d.world.nodes q) (at_call d.calls (option_map (λ r. (p, NotSaved r)) w) (λ i call. call ∷ d.calls i) q) (at_call d.store (option_map (λ r. (p, NotSaved r)) w) (λ i call. new) q) (d.broken q)
  starved d p None new a is q = a q
  starved d p (Some r) new a is q =
      split (q == p) (λ b. Agrees q (d.world.nodes q) (cond b (NotSaved r ∷ d.calls p) (d.calls q)) (cond b new (d.store q)) (d.broken q))
      (λ t. subst (λ i. Agrees i (d.world.nodes i) (NotSaved r ∷ d.calls p) new (d.broken i)) (sym (eqb-true q p t)) (starves p (d.world.nodes p) (d.calls p) (d.store p) new (d.broken p) r (a p) is.1))
      (λ _. a q)

  broke : (d : Stored S) (p : ℕ) (cut : Cut) (w : Option Record) (new : S) → AllAgree d → is_open (d.calls p) ≡ true → wrote c p (d.world.nodes p) cut ≡ w → IsCalled seen may_leave c d (option_map (λ r. (p, Broken r)) w) new → (q : ℕ)
      → Agrees q (d.world.nodes q) (at_call d.calls (option_map (λ r. (p, Broken r)) w) (λ i call. call ∷ d.calls i) q) (at_call d.store (option_map (λ r. (p, Broken r)) w) (λ i call. new) q) (cond (q == p) (Some cut) (d.broken q))
  broke d p cut None new a up e is q =
      cond_both (q == p) (Some cut) (d.broken q) (Agrees q (d.world.nodes q) (d.calls q) (d.store q))
      (λ t. subst (λ i. Agrees i (d.world.nodes i) (d.calls i) (d.store i) (Some cut)) (sym (eqb-true q p t)) (record { lawful = (a p).lawful; stands = (a p).stands; knows = (a p).knows; doubts = λ r h. absurd (open_certain (d.calls p) up r h) }))
      (λ _. a q)
  broke d p cut (Some r) new a up e is q =
      split (q == p) (λ b. Agrees q (d.world.nodes q) (cond b (Broken r ∷ d.calls p) (d.calls q)) (cond b new (d.store q)) (cond b (Some cut) (d.broken q)))
      (λ t. subst (λ i. Agrees i (d.world.nodes i) (Broken r ∷ d.calls p) new (Some cut)) (sym (eqb-true q p t)) (breaks p (d.world.nodes p) (d.calls p) (d.store p) new (d.broken p) cut r (a p) up e is.0 is.1))
      (λ _. a q)

  -- an opening, behind which nothing is in doubt
  reopened : (d : Stored S) (p : ℕ) (m : Node) (call : Call) (new : S) → AllAgree d → Agrees p m (call ∷ d.calls p) new None → (q : ℕ)
      → Agrees q (cond (q == p) m (d.world.nodes q)) (cond (q == p) (call ∷ d.calls p) (d.calls q)) (cond (q == p) new (d.store q)) (cond (q == p) None (d.broken q))
  reopened d p m call new a here q =
      split (q == p) (λ b. Agrees q (cond b m (d.world.nodes q)) (cond b (call ∷ d.calls p) (d.calls q)) (cond b new (d.store q)) (cond b None (d.broken q)))
      (λ t. subst (λ i. Agrees i m (call ∷ d.calls p) new None) (sym (eqb-true q p t)) here)
      (λ _. a q)

  -- one call beside the world's events
  calls_alone : (d : Stored S) (p : ℕ) (call : Call) (new : S) → AllAgree d → Agrees p (d.world.nodes p) (call ∷ d.calls p) new (d.broken p) → (q : ℕ)
      → Agrees q (d.world.nodes q) (cond (q == p) (call ∷ d.calls p) (d.calls q)) (cond (q == p) new (d.store q)) (d.broken q)
  calls_alone d p call new a here q =
      split (q == p) (λ b. Agrees q (d.world.nodes q) (cond b (call ∷ d.calls p) (d.calls q)) (cond b new (d.store q)) (d.broken q))
      (λ t. subst (λ i. Agrees i (d.world.nodes i) (call ∷ d.calls p) new (d.broken i)) (sym (eqb-true q p t)) here)
      (λ _. a q)

  -- a node stays as it was
  stays : (d : Stored S) (p : ℕ) → AllAgree d → (q : ℕ) → Agrees q (cond (q == p) (d.world.nodes p) (d.world.nodes q)) (d.calls q) (d.store q) (d.broken q)
  stays d p a q =
      cond_both (q == p) (d.world.nodes p) (d.world.nodes q) (λ (n : Node). Agrees q n (d.calls q) (d.store q) (d.broken q))
      (λ t. subst (λ i. Agrees i (d.world.nodes p) (d.calls i) (d.store i) (d.broken i)) (sym (eqb-true q p t)) (a p))
      (λ _. a q)

  agree_after : (d : Stored S) (deed : Deed) (new : S) → AllAgree d → MayHappen d deed → IsCalled seen may_leave c d (call_of c d.world deed) new → (q : ℕ) → AgreesAfter d deed new q
  agree_after d (Goes (Sends client op)) new a up is q = a q
  agree_after d (Goes (Comes p bytes)) new a up is q =
      let n = d.world.nodes p in
      moves d p (arrival c p n bytes).node (InArrival bytes) (wrote c p n (InArrival bytes)) new a up (come_lawful c p n bytes (a p).lawful) refl (come_journal c p n bytes) is q
  agree_after d (Goes (Fires p k)) new a up is q =
      let n = d.world.nodes p in
      moves d p (tried c p n k).node (InFiring k) (wrote c p n (InFiring k)) new a up (try_lawful c p n k (a p).lawful) refl (try_journal c p n k) is q
  agree_after d (Goes (Asks p)) new a up is q = stays d p a q
  agree_after d (Goes (Resends p)) new a up is q = stays d p a q
  agree_after d (Goes (Restarts p cut)) new a up is q = absurd up
  agree_after d (Starves p cut) new a up is q = starved d p (wrote c p (d.world.nodes p) cut) new a is q
  agree_after d (Breaks p cut) new a up is q = broke d p cut (wrote c p (d.world.nodes p) cut) new a up refl is q
  agree_after d (Stops p) new a up is q = calls_alone d p Left new a (stops p (d.world.nodes p) (d.calls p) (d.store p) new (d.broken p) (a p) is.1) q
  agree_after d (Fails p fault) new a up is q = calls_alone d p (NotOpened fault) new a (fails p (d.world.nodes p) (d.calls p) (d.store p) new (d.broken p) fault (a p) is.1) q
  agree_after d (Opens p rs) new a up is q = reopened d p (opened p (reverse rs)) (Opened rs) new a (opens p (d.world.nodes p) (d.calls p) (d.store p) new (d.broken p) rs (a p) is.1) q

  pub all_agree : (d : Stored S) (deeds : List (Deed × S)) → AllAgree d → Happen seen may_leave c d deeds → AllAgree (ends c d deeds)
  all_agree d [] a h = a
  all_agree d (deed ∷ deeds) a h = all_agree (after c d deed.0 deed.1) deeds (agree_after d deed.0 deed.1 a h.0 h.1) h.2

  pub begun_agrees : (unopened start : ℕ → S) → BeginsEmpty seen may_leave c unopened start → AllAgree (begun c start)
  begun_agrees unopened start b q = record {
    lawful = opened_lawful c q [] tt tt;
    stands = settled seen may_leave c.powers q [] [] (start q) (b q).1 (b q).2;
    knows = refl;
    doubts = λ r d. absurd cc;
  }

  -- ---- the world

  step_world : (d : Stored S) (deed : Deed) (new : S) → AllAgree d → IsCalled seen may_leave c d (call_of c d.world deed) new → world_after c d.world deed ≡ run c d.world (events_by d deed)
  step_world d (Goes e) new a is = refl
  step_world d (Starves p cut) new a is = refl
  step_world d (Breaks p cut) new a is = refl
  step_world d (Stops p) new a is = refl
  step_world d (Fails p fault) new a is = refl
  step_world d (Opens p rs) new a is =
      let n = d.world.nodes p in
      ap (λ (j : List Record). with_node d.world p (opened p j) []) (restarted c p n (d.broken p) rs (finding p n (d.calls p) (d.store p) new (d.broken p) rs (a p) is.1))

  same_world : (d : Stored S) (deeds : List (Deed × S)) → AllAgree d → Happen seen may_leave c d deeds → (ends c d deeds).world ≡ run c d.world (events_of c d deeds)
  same_world d [] a h = refl
  same_world d (deed ∷ deeds) a h =
      let next = after c d deed.0 deed.1 in
      same_world next deeds (agree_after d deed.0 deed.1 a h.0 h.1) h.2 ∙ ap (λ (w : World). run c w (events_of c next deeds)) (step_world d deed.0 deed.1 a h.1) ∙ sym (run_append c d.world (events_by d deed.0) (events_of c next deeds))

  -- ---- two moments

  pub ends_append : (d : Stored S) (early late : List (Deed × S)) → ends c d (early ++ late) ≡ ends c (ends c d early) late
  ends_append d [] late = refl
  ends_append d (deed ∷ early) late = ends_append (after c d deed.0 deed.1) early late

  events_append : (d : Stored S) (early late : List (Deed × S)) → events_of c d (early ++ late) ≡ events_of c d early ++ events_of c (ends c d early) late
  events_append d [] late = refl
  events_append d (deed ∷ early) late =
      let next = after c d deed.0 deed.1 in
      ap (λ (es : List Event). events_by d deed.0 ++ es) (events_append next early late) ∙ sym (append_assoc (events_by d deed.0) (events_of c next early) (events_of c (ends c next early) late))

  happen_early : (d : Stored S) (early late : List (Deed × S)) → Happen seen may_leave c d (early ++ late) → Happen seen may_leave c d early
  happen_early d [] late h = tt
  happen_early d (deed ∷ early) late h = (h.0, h.1, happen_early (after c d deed.0 deed.1) early late h.2)

pub stopped : {S : Type 0} (seen : S → List ℕ) (may_leave : S → List ℕ → Type 0) → StoppedLaw seen may_leave
stopped {S} seen may_leave = λ c unopened start deeds b h.
    let a0 = begun_agrees seen may_leave c unopened start b in
    let a = all_agree seen may_leave c (begun c start) deeds a0 h in
    let d : Stored S = ends c (begun c start) deeds in (
      same_world seen may_leave c (begun c start) deeds a0 h,
      λ p new rs o. finding seen may_leave c p (d.world.nodes p) (d.calls p) (d.store p) new (d.broken p) rs (a p) o,
      λ p new bad. never_bad seen may_leave c.powers p [] (d.calls p) (d.store p) (a p).stands (bad.1 refl),
    )

pub stopped_headline : {S : Type 0} (seen : S → List ℕ) (may_leave : S → List ℕ → Type 0) → StoppedHeadlineLaw seen may_leave
stopped_headline {S} seen may_leave = λ c h unopened start early late b happen few unforged distinct p correct.
    let d : Stored S = begun c start in
    let a0 = begun_agrees seen may_leave c unopened start b in
    let es : List Event = events_of c d early in
    let fs : List Event = events_of c (ends c d early) late in
    let all : events_of c d (early ++ late) ≡ es ++ fs = events_append seen may_leave c d early late in
    let old : (ends c d early).world ≡ run c (beginning c) es = same_world seen may_leave c d early a0 (happen_early seen may_leave c d early late happen) in
    let new : (ends c d (early ++ late)).world ≡ run c (beginning c) (es ++ fs) = same_world seen may_leave c d (early ++ late) a0 happen ∙ ap (run c (beginning c)) all in
    subst (λ (w : World). IsHeadline c h w (ends c d (early ++ late)).world p) (sym old) (
    subst (λ (w : World). IsHeadline c h (run c (beginning c) es) w p) (sym new) (
    begins_law c h es fs few (subst (Unforged c h (beginning c)) all unforged) (subst (Distinct c h) all distinct) p correct
    )
    )
