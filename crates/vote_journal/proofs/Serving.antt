-- Every run of the definitions, as one over stores that do what they are asked.
use Rattle.std.proofs.Common.{◌≡◌, inr, ℕ, true, false, cond, Option, Some, None, List, [], ◌∷◌, ◌++◌, reverse, refl, sym, ap, subst, ◌∙◌, option_to_list, eqb-true, eq-eqb}
use Rattle.std.specs.Prelude.{◌==◌, option_map}
use Rattle.std.proofs.lemmas.Bool.{cond_both}
use Rattle.std.proofs.lemmas.List.{reverse-reverse}
use Rattle.protocol.specs.Tags.{Setting}
use Rattle.protocol.specs.Messages.{Record}
use Rattle.protocol.specs.State.{Node}
use Rattle.protocol.specs.Restart.{opened}
use Rattle.protocol.specs.Arrivals.{arrival}
use Rattle.protocol.specs.World.{World, Cut, InArrival, InFiring, Event, Sends, Comes, Fires, Asks, Resends, Restarts, happens, run, tried, cut_record, with_node}
use Rattle.protocol.proofs.Growth.{run_longer}
use Rattle.vote_journal.specs.Grammar.{header, mark, record_spelling, IsRecord}
use Rattle.vote_journal.specs.Order.{may_follow}
use Rattle.vote_journal.specs.Layout.{IsJournal, IsWhole}
use Rattle.vote_journal.specs.Laws.{IsLawful}
use Rattle.vote_journal.specs.History.{Call, Opened, Saved, Broken, is_open, HasOpened, Does}
use Rattle.vote_journal.specs.Stopping.{Deed, Goes, Breaks, Opens, Stored, wrote, at_call, after, ends, begun, Fits, IsCalled, Happen, BeginsEmpty}
use Rattle.vote_journal.specs.Serving.{bytes_of, stays, AllFit, ServedLaw}
use Rattle.vote_journal.proofs.Stops.{whole_is_journal, whole_push, front_whole}
use Rattle.vote_journal.proofs.Following.{record_fits}
use Rattle.vote_journal.proofs.Stopping.{split, newest, oldest, wrote_is, saves_lawful, come_journal, try_journal, AllAgree, all_agree, begun_agrees, ends_append}

-- ---- what such a store does

opens_whole : (powers : List ℕ) (p : ℕ) (old s : List ℕ) (rs : List Record) → old ≡ s → IsWhole powers p s rs → HasOpened bytes_of stays powers p old s rs
opens_whole powers p old s rs e w = ((s, sym e, whole_is_journal powers p s rs w), w, λ c h. h)

saves_all : (powers : List ℕ) (p : ℕ) (s : List ℕ) (r : Record) → Does bytes_of stays powers p (Saved r) s (s ++ record_spelling p r)
saves_all powers p s r = (λ others rs w is f. whole_push others p s (s ++ record_spelling p r) rs r w is f refl, λ c h. h)

breaks_late : (powers : List ℕ) (p : ℕ) (s : List ℕ) (r : Record) → Does bytes_of stays powers p (Broken r) s (s ++ record_spelling p r)
breaks_late powers p s r = λ others rs w is f c h.
    inr (subst (λ (x : List ℕ). IsJournal others p x (rs ++ r ∷ [])) (sym h) (whole_is_journal others p (s ++ record_spelling p r) (rs ++ r ∷ []) (whole_push others p s (s ++ record_spelling p r) rs r w is f refl)))

same : (p : ℕ) → (p == p) ≡ true
same p = eq-eqb p p refl

abbrev stored_by : ℕ → List ℕ → Option Record → List ℕ
stored_by p s None = s
stored_by p s (Some r) = s ++ record_spelling p r

-- what is in some records is in less of them
fit_behind : (p : ℕ) (more j : List Record) → AllFit p (more ++ j) → AllFit p j
fit_behind p [] j f = f
fit_behind p (r ∷ more) j f = fit_behind p more j f.1

module _ (c : Setting) where
  abbrev S : Type 0
  S = Stored (List ℕ)

  -- each journal is open, and has all of its node's records
  abbrev HasAll : ℕ → Node → List Call → List ℕ → Type 0
  HasAll p n calls store = IsWhole c.powers p store (reverse n.journal) × (is_open calls ≡ true)

  abbrev AllHave : S → Type 0
  AllHave d = (q : ℕ) → HasAll q (d.world.nodes q) (d.calls q) (d.store q)

  abbrev AllAre : S → Type 0
  AllAre d = AllAgree bytes_of stays c d

  abbrev AllFitIn : World → Type 0
  AllFitIn w = (p : ℕ) → AllFit p (w.nodes p).journal

  -- an event, done over stores
  pub record IsDone (d : S) (w : World) : Type 0 where
    pub deeds : List (Deed × List ℕ)
    pub happen : Happen bytes_of stays c d deeds
    pub has : AllHave (ends c d deeds)
    pub world : (ends c d deeds).world ≡ w

  pushed : (p : ℕ) (n m : Node) (s : List ℕ) (r : Record) → IsWhole c.powers p s (reverse n.journal) → IsRecord p r → may_follow c.powers n.journal r ≡ true → m.journal ≡ r ∷ n.journal → IsWhole c.powers p (s ++ record_spelling p r) (reverse m.journal)
  pushed p n m s r w is f e =
      subst (λ (j : List Record). IsWhole c.powers p (s ++ record_spelling p r) (reverse j)) (sym e) (
      subst (IsWhole c.powers p (s ++ record_spelling p r)) (sym (oldest n.journal r))
      (whole_push c.powers p s (s ++ record_spelling p r) (reverse n.journal) r w is (ap (λ (j : List Record). may_follow c.powers j r) (reverse-reverse n.journal) ∙ f) refl)
      )

  -- a record of a lawful node that fits
  savable : (p : ℕ) (n : Node) (cut : Cut) (r : Record) → IsLawful c p n → wrote c p n cut ≡ Some r → Fits p r → IsRecord p r × (may_follow c.powers n.journal r ≡ true)
  savable p n cut r l e f = let k = saves_lawful c p n cut r l e in (record_fits p r n.journal f k.1, k.0.0)

  moves_on : (d : S) (p : ℕ) (m : Node) (cut : Cut) (w : Option Record) → AllAre d → AllHave d → wrote c p (d.world.nodes p) cut ≡ w → m.journal ≡ option_to_list w ++ (d.world.nodes p).journal → AllFit p m.journal → (q : ℕ)
      → HasAll q (cond (q == p) m (d.world.nodes q)) (at_call d.calls (option_map (λ r. (p, Saved r)) w) (λ i call. call ∷ d.calls i) q) (at_call d.store (option_map (λ r. (p, Saved r)) w) (λ i call. stored_by p (d.store p) w) q)
  moves_on d p m cut None a h e j f q =
      cond_both (q == p) m (d.world.nodes q) (λ (n : Node). HasAll q n (d.calls q) (d.store q))
      (λ t. subst (λ i. HasAll i m (d.calls i) (d.store i)) (sym (eqb-true q p t)) (subst (λ (x : List Record). IsWhole c.powers p (d.store p) (reverse x)) (sym j) (h p).0, (h p).1))
      (λ _. h q)
  moves_on d p m cut (Some r) a h e j f q =
      let fit : Fits p r × AllFit p (d.world.nodes p).journal = subst (AllFit p) j f in
      let k = savable p (d.world.nodes p) cut r (a p).lawful e fit.0 in
      split (q == p) (λ b. HasAll q (cond b m (d.world.nodes q)) (cond b (Saved r ∷ d.calls p) (d.calls q)) (cond b (d.store p ++ record_spelling p r) (d.store q)))
      (λ t. subst (λ i. HasAll i m (Saved r ∷ d.calls p) (d.store p ++ record_spelling p r)) (sym (eqb-true q p t)) (pushed p (d.world.nodes p) m (d.store p) r (h p).0 k.0 k.1 j, (h p).1))
      (λ _. h q)

  moves_called : (d : S) (p : ℕ) (w : Option Record) (j : List Record) → AllFit p (option_to_list w ++ j) → IsCalled bytes_of stays c d (option_map (λ r. (p, Saved r)) w) (stored_by p (d.store p) w)
  moves_called d p None j f = tt
  moves_called d p (Some r) j f = (f.0, saves_all c.powers p (d.store p) r)

  stays_on : (d : S) (p : ℕ) → AllHave d → (q : ℕ) → HasAll q (cond (q == p) (d.world.nodes p) (d.world.nodes q)) (d.calls q) (d.store q)
  stays_on d p h q =
      cond_both (q == p) (d.world.nodes p) (d.world.nodes q) (λ (n : Node). HasAll q n (d.calls q) (d.store q))
      (λ t. subst (λ i. HasAll i (d.world.nodes p) (d.calls i) (d.store i)) (sym (eqb-true q p t)) (h p))
      (λ _. h q)

  -- a store is opened, and has these records
  reopened : (d : S) (p : ℕ) (rs : List Record) (s : List ℕ) (w : World) → ((q : ℕ) → (q == p) ≡ false → HasAll q (d.world.nodes q) (d.calls q) (d.store q)) → d.store p ≡ s → IsWhole c.powers p s rs
      → with_node d.world p (opened p (reverse rs)) [] ≡ w → IsDone d w
  reopened d p rs s w h e whole is = record {
    deeds = (Opens p rs, s) ∷ [];
    happen = (tt, (tt, opens_whole c.powers p (d.store p) s rs e whole), tt);
    has = λ q. split (q == p) (λ b. HasAll q (cond b (opened p (reverse rs)) (d.world.nodes q)) (cond b (Opened rs ∷ d.calls p) (d.calls q)) (cond b s (d.store q)))
        (λ t. subst (λ i. HasAll i (opened p (reverse rs)) (Opened rs ∷ d.calls p) s) (sym (eqb-true q p t)) (subst (IsWhole c.powers p s) (sym (reverse-reverse rs)) whole, refl))
        (h q);
    world = is;
  }

  restarts_plain : (d : S) (p : ℕ) (cut : Option Cut) → AllHave d → cut_record c p (d.world.nodes p) cut ≡ [] → IsDone d (happens c d.world (Restarts p cut))
  restarts_plain d p cut h none =
      let j = (d.world.nodes p).journal in
      reopened d p (reverse j) (d.store p) (happens c d.world (Restarts p cut)) (λ q _. h q) refl (h p).0
      (ap (λ (x : List Record). with_node d.world p (opened p x) []) (reverse-reverse j ∙ ap (λ (x : List Record). x ++ j) (sym none)))

  -- a store whose device fails, or that a stop leaves, as all of the record stands
  broken_at : S → ℕ → Cut → Record → List ℕ → S
  broken_at d p cut r s = record {
    world = d.world;
    store = λ q. cond (q == p) s (d.store q);
    calls = λ q. cond (q == p) (Broken r ∷ d.calls p) (d.calls q);
    broken = λ q. cond (q == p) (Some cut) (d.broken q);
  }

  breaks_to : (d : S) (p : ℕ) (cut : Cut) (r : Record) (s : List ℕ) → wrote c p (d.world.nodes p) cut ≡ Some r → after c d (Breaks p cut) s ≡ broken_at d p cut r s
  unfolding broken_at
  breaks_to d p cut r s e = λ i. record {
    world = d.world;
    store = at_call d.store (option_map (λ x. (p, Broken x)) (e i)) (λ p call. s);
    calls = at_call d.calls (option_map (λ x. (p, Broken x)) (e i)) (λ p call. call ∷ d.calls p);
    broken = λ q. cond (q == p) (Some cut) (d.broken q);
  }

  restarts_found : (d : S) (p : ℕ) (cut : Cut) (r : Record) → AllAre d → AllHave d → wrote c p (d.world.nodes p) cut ≡ Some r → Fits p r → IsDone d (happens c d.world (Restarts p (Some cut)))
  unfolding broken_at
  restarts_found d p cut r a h e f =
      let n = d.world.nodes p in
      let s = d.store p ++ record_spelling p r in
      let k = savable p n cut r (a p).lawful e f in
      let rs = reverse n.journal ++ r ∷ [] in
      let whole : IsWhole c.powers p s rs = whole_push c.powers p (d.store p) s (reverse n.journal) r (h p).0 k.0 (ap (λ (j : List Record). may_follow c.powers j r) (reverse-reverse n.journal) ∙ k.1) refl in
      let mid = broken_at d p cut r s in
      let here : after c d (Breaks p cut) s ≡ mid = breaks_to d p cut r s e in
      let journal : reverse rs ≡ cut_record c p n (Some cut) ++ n.journal = newest n.journal r ∙ ap (λ (x : List Record). x ++ n.journal) (sym (wrote_is c p n cut ∙ ap option_to_list e)) in
      let next = reopened mid p rs s (happens c d.world (Restarts p (Some cut)))
      (λ q no. subst (λ b. HasAll q (d.world.nodes q) (cond b (Broken r ∷ d.calls p) (d.calls q)) (cond b s (d.store q))) (sym no) (h q))
      (ap (λ b. cond b s (d.store p)) (same p))
      whole
      (ap (λ (x : List Record). with_node d.world p (opened p x) []) journal) in
      record {
        deeds = (Breaks p cut, s) ∷ next.deeds;
        happen = (
          (h p).1,
          subst (λ w. IsCalled bytes_of stays c d (option_map (λ x. (p, Broken x)) w) s) (sym e) (f, breaks_late c.powers p (d.store p) r),
          subst (λ x. Happen bytes_of stays c x next.deeds) (sym here) next.happen,
        );
        has = subst (λ x. AllHave (ends c x next.deeds)) (sym here) next.has;
        world = ap (λ x. (ends c x next.deeds).world) here ∙ next.world;
      }

  -- what was told to be written, or nothing
  restarts_by : (d : S) (p : ℕ) (cut : Cut) (w : Option Record) → AllAre d → AllHave d → wrote c p (d.world.nodes p) cut ≡ w → AllFit p (cut_record c p (d.world.nodes p) (Some cut) ++ (d.world.nodes p).journal)
      → IsDone d (happens c d.world (Restarts p (Some cut)))
  restarts_by d p cut None a h e f = restarts_plain d p (Some cut) h (wrote_is c p (d.world.nodes p) cut ∙ ap option_to_list e)
  restarts_by d p cut (Some r) a h e f =
      let n = d.world.nodes p in
      let fit : Fits p r × AllFit p n.journal = subst (λ (x : List Record). AllFit p (x ++ n.journal)) (wrote_is c p n cut ∙ ap option_to_list e) f in
      restarts_found d p cut r a h e fit.0

  at_own : (p : ℕ) (m n : Node) → AllFit p (cond (p == p) m n).journal → AllFit p m.journal
  at_own p m n f = subst (λ b. AllFit p (cond b m n).journal) (same p) f

  done : (d : S) (e : Event) → AllAre d → AllHave d → AllFitIn (happens c d.world e) → IsDone d (happens c d.world e)
  done d (Sends client op) a h f = record {
    deeds = (Goes (Sends client op), []) ∷ [];
    happen = (tt, tt, tt);
    has = h;
    world = refl;
  }
  done d (Comes p bytes) a h f =
      let n = d.world.nodes p in
      let m = (arrival c p n bytes).node in
      let w = wrote c p n (InArrival bytes) in
      let fit : AllFit p m.journal = at_own p m n (f p) in
      record {
        deeds = (Goes (Comes p bytes), stored_by p (d.store p) w) ∷ [];
        happen = ((h p).1, moves_called d p w n.journal (subst (AllFit p) (come_journal c p n bytes) fit), tt);
        has = moves_on d p m (InArrival bytes) w a h refl (come_journal c p n bytes) fit;
        world = refl;
      }
  done d (Fires p k) a h f =
      let n = d.world.nodes p in
      let m = (tried c p n k).node in
      let w = wrote c p n (InFiring k) in
      let fit : AllFit p m.journal = at_own p m n (f p) in
      record {
        deeds = (Goes (Fires p k), stored_by p (d.store p) w) ∷ [];
        happen = ((h p).1, moves_called d p w n.journal (subst (AllFit p) (try_journal c p n k) fit), tt);
        has = moves_on d p m (InFiring k) w a h refl (try_journal c p n k) fit;
        world = refl;
      }
  done d (Asks p) a h f = record { deeds = (Goes (Asks p), []) ∷ []; happen = ((h p).1, tt, tt); has = stays_on d p h; world = refl }
  done d (Resends p) a h f = record { deeds = (Goes (Resends p), []) ∷ []; happen = ((h p).1, tt, tt); has = stays_on d p h; world = refl }
  done d (Restarts p None) a h f = restarts_plain d p None h refl
  done d (Restarts p (Some cut)) a h f =
      let n = d.world.nodes p in
      restarts_by d p cut (wrote c p n cut) a h refl (at_own p (opened p (cut_record c p n (Some cut) ++ n.journal)) n (f p))

  happen_append : (d : S) (early late : List (Deed × List ℕ)) → Happen bytes_of stays c d early → Happen bytes_of stays c (ends c d early) late → Happen bytes_of stays c d (early ++ late)
  happen_append d [] late h k = k
  happen_append d (deed ∷ early) late h k = (h.0, h.1, happen_append (after c d deed.0 deed.1) early late h.2 k)

  all_done : (d : S) (events : List Event) → AllAre d → AllHave d → AllFitIn (run c d.world events) → IsDone d (run c d.world events)
  all_done d [] a h f = record { deeds = []; happen = tt; has = h; world = refl }
  all_done d (e ∷ events) a h f =
      let first = done d e a h (λ p. let l = run_longer c (happens c d.world e) events p in fit_behind p l.more ((happens c d.world e).nodes p).journal (subst (AllFit p) l.is (f p))) in
      let next = ends c d first.deeds in
      let rest = all_done next events (all_agree bytes_of stays c d first.deeds a first.happen) first.has (subst (λ (w : World). AllFitIn (run c w events)) (sym first.world) f) in
      let both = ends_append bytes_of stays c d first.deeds rest.deeds in
      record {
        deeds = first.deeds ++ rest.deeds;
        happen = happen_append d first.deeds rest.deeds first.happen rest.happen;
        has = subst AllHave (sym both) rest.has;
        world = ap (λ (x : S). x.world) both ∙ rest.world ∙ ap (λ (w : World). run c w events) first.world;
      }

pub served : ServedLaw
served c events f =
    let start : ℕ → List ℕ = λ p. header ++ mark in
    let whole : (p : ℕ) → IsWhole c.powers p (header ++ mark) [] = λ p. front_whole c.powers p in
    let begins : BeginsEmpty bytes_of stays c start start = λ p. opens_whole c.powers p (header ++ mark) (header ++ mark) [] refl (whole p) in
    let all = all_done c (begun c start) events (begun_agrees bytes_of stays c start start begins) (λ q. (whole q, refl)) f in
    (start, all.deeds, begins, all.happen, all.world)
