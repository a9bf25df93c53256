-- Each decision's certificate is a quorum, and its tags are right: the kept precommits that came from outside have their tags, which were right as they came.
use Rattle.std.proofs.Common.{◌≡◌, ℕ, suc, ◌<◌, ◌⊎◌, inl, inr, Bool, true, false, cond, ◌&&◌, List, [], ◌∷◌, ◌++◌, length, refl, sym, ◌∙◌, ap, subst, Option, Some, None, eqb-true, eq-eqb, option_to_list, find}
use Rattle.std.specs.Prelude.{◌==◌}
use Rattle.std.specs.Str.{bytes_eq}
use Rattle.std.proofs.lemmas.Bool.{cond_both, and_parts, and_from, cases_Bool}
use Rattle.std.proofs.lemmas.Slice.Eq.{bytes_eq-Decides}
use Rattle.powers.specs.Power.{IsQuorum, proposer}
use Rattle.powers.proofs.Quorums.{quorum_more}
use Rattle.messages.specs.Grammar.{body_spelling}
use Rattle.messages.specs.Framing.{message_of}
use Rattle.protocol.specs.Values.{Id, Value, id}
use Rattle.protocol.specs.Tags.{Setting, Validator, right}
use Rattle.protocol.specs.Messages.{◌∈◌, Step, Propose, Prevote, Precommit, step_eq, step_of_vote, Bundle, Signed, Vote, Body, OfTx, OfProposal, OfVote, OfAsk, OfBundle, Record, Own, Decided, Act, Proposing, Prevoting, Precommitting, Message, body_of, precommit, below, tagged}
use Rattle.protocol.specs.Tally.{senders, is_vote_for}
use Rattle.protocol.specs.State.{State, Node, ValueAt, Stamp, Rule, Start, PrevoteFresh, PrevoteAgain, AwaitPrevotes, Lock, PrecommitNil, AwaitPrecommits, Decide, DecideByBundle, SkipRound, TimedOut}
use Rattle.protocol.specs.Rules.{holds, saved, keeping, keeping_own, released_by, starts, proposal_of, times_out, certificate, signed_by, is_stamp, changed}
use Rattle.protocol.specs.Restart.{restart, opened, own_since, votes_in}
use Rattle.protocol.specs.Queues.{pick}
use Rattle.protocol.specs.Refusals.{context, bundle_senders, named_senders, is_vouching, certified}
use Rattle.protocol.specs.Arrivals.{taken_in, firing, kept_message, stamp_of}
use Rattle.protocol.specs.World.{World, Event, Sends, Comes, Fires, Asks, Resends, Restarts, happens, run, beginning, cut_record, moved}
use Rattle.protocol.specs.Laws.{CertificateLaw}
use Rattle.protocol.specs.Lawful.{precommit_text, StampFound, Stamped, IsRight, KeepsStamps}
use Rattle.protocol.proofs.Membership.{in_append, in_left, in_right, flat_map_in, in_flat_map, any_found, any_in, find_in, found_in, in_below}
use Rattle.protocol.proofs.Asked.{asked}
use Rattle.protocol.proofs.Arrivals.{IsTaken, come_cases, try_cases, cut_cases}
use Rattle.protocol.proofs.Backing.{Counts, counts}
use Rattle.protocol.proofs.Marks.{is_precommit, same_vote}
use Rattle.protocol.proofs.Covered.{keeping_votes, keeping_height}
use Rattle.protocol.proofs.Tagging.{all_right}

-- ---- a certificate

-- validator i's precommit stands there, and its tag is right for p, where this is a validator
record Stands (c : Setting) (p height r : ℕ) (x : Id) (i : ℕ) (zs : List Signed) : Type 0 where
  signed : Signed
  there : signed ∈ zs
  sender : signed.sender ≡ i
  tag : p < length c.powers → right c p (Validator i) (precommit_text height r x i) signed.tags ≡ true

-- the own precommit stands in the certificate, with its tags made anew, and another's as it arrived
signed_own : (c : Setting) (p : ℕ) (s : State) (r : ℕ) (x : Id) (i : ℕ) → senders s.votes (is_vote_for r Precommit (Some x)) i ≡ true → i == p ≡ true → Stands c p s.height r x i (signed_by (context c p) s r x i)
signed_own c p s r x i e t =
    let tags = (tagged c (OfVote (precommit s.height r p (Some x)))).tags in
    let own : Signed = record { sender = i; tags = tags } in record {
      signed = own;
      there = subst (λ l. own ∈ l) (sym (both e t)) (inl refl);
      sender = refl;
      tag = λ l. subst (λ n. right c p (Validator n) (precommit_text s.height r x n) tags ≡ true) (sym (eqb-true i p t)) (all_right c (OfVote (precommit s.height r p (Some x))) p l);
    }
  where
    both : senders s.votes (is_vote_for r Precommit (Some x)) i ≡ true → i == p ≡ true → signed_by (context c p) s r x i ≡ record { sender = i; tags = (tagged c (OfVote (precommit s.height r p (Some x)))).tags } ∷ []
    both e t = rw (e, t) refl

signed_other : (c : Setting) (p : ℕ) (s : State) (r : ℕ) (x : Id) (i : ℕ) (stamp : Stamp) → senders s.votes (is_vote_for r Precommit (Some x)) i ≡ true → i == p ≡ false → find (is_stamp r x i) s.stamps ≡ Some stamp → is_stamp r x i stamp ≡ true → IsRight c p s.height stamp
    → Stands c p s.height r x i (signed_by (context c p) s r x i)
signed_other c p s r x i stamp e t f passes rights =
    let k = and_parts ((stamp.round == r) && bytes_eq stamp.id x) (stamp.signed.sender == i) passes in
    let j = and_parts (stamp.round == r) (bytes_eq stamp.id x) k.0 in
    let at_round = subst (λ n. right c p (Validator stamp.signed.sender) (precommit_text s.height n stamp.id stamp.signed.sender) stamp.signed.tags ≡ true) (eqb-true stamp.round r j.0) rights in
    let for_id = subst (λ y. right c p (Validator stamp.signed.sender) (precommit_text s.height r y stamp.signed.sender) stamp.signed.tags ≡ true) ((bytes_eq-Decides stamp.id x).0 j.1) at_round in record {
      signed = stamp.signed;
      there = subst (λ l. stamp.signed ∈ l) (sym (as_arrived e t f)) (inl refl);
      sender = eqb-true stamp.signed.sender i k.1;
      tag = λ _. subst (λ n. right c p (Validator n) (precommit_text s.height r x n) stamp.signed.tags ≡ true) (eqb-true stamp.signed.sender i k.1) for_id;
    }
  where
    as_arrived : senders s.votes (is_vote_for r Precommit (Some x)) i ≡ true → i == p ≡ false → find (is_stamp r x i) s.stamps ≡ Some stamp → signed_by (context c p) s r x i ≡ stamp.signed ∷ []
    as_arrived e t f = rw (e, t, f) refl

-- the vote that puts a member into the quorum is its own, or has its stamp
member_stamp : (p : ℕ) (s : State) (r : ℕ) (x : Id) → Stamped p s.votes s.stamps → (i : ℕ) (v : Vote) → v ∈ s.votes → Counts r Precommit (Some x) i v → (i ≡ p) ⊎ StampFound s.stamps r x i
member_stamp p s r x st i v there k =
    subst (λ n. (n ≡ p) ⊎ StampFound s.stamps r x n) k.sender_is (subst (λ n. (v.sender ≡ p) ⊎ StampFound s.stamps n x v.sender) k.round_is (st v x there k.step_is k.content_is))

-- each member of a kept quorum is in the certificate
signed : (c : Setting) (p : ℕ) (s : State) (r : ℕ) (x : Id) → KeepsStamps c p s.height s.votes s.stamps → (i : ℕ) → senders s.votes (is_vote_for r Precommit (Some x)) i ≡ true → Stands c p s.height r x i (signed_by (context c p) s r x i)
signed c p s r x st i e = elim (cases_Bool (i == p)) [
  | inl t ↦ signed_own c p s r x i e t
  | inr t ↦ (
      let f = any_found (λ (v : Vote). is_vote_for r Precommit (Some x) v && (v.sender == i)) s.votes e in
      elim (member_stamp p s r x st.stamped i f.0 f.1 (counts r Precommit (Some x) i f.0 f.2)) [
        | inl own ↦ absurd (let u : i == p ≡ true = eq-eqb i p own in let w : true ≡ false = sym u ∙ t in cc)
        | inr k ↦ (
            let found = find_in (is_stamp r x i) k.stamp s.stamps k.there k.is in
            let z = found_in (is_stamp r x i) s.stamps found.0 found.1 in
            signed_other c p s r x i found.0 e t found.1 z.passes (st.rights found.0 z.there))
      ])
]

in_certificate : (c : Setting) (p : ℕ) (s : State) (r : ℕ) (x : Id) → KeepsStamps c p s.height s.votes s.stamps → (i : ℕ) → i < length c.powers → senders s.votes (is_vote_for r Precommit (Some x)) i ≡ true → Stands c p s.height r x i (certificate (context c p) s r x)
in_certificate c p s r x st i l e =
    let z = signed c p s r x st i e in
    record { signed = z.signed; there = flat_map_in (signed_by (context c p) s r x) z.signed i (below (length c.powers)) (in_below i (length c.powers) l) z.there; sender = z.sender; tag = z.tag }

-- ---- what a firing saves

abbrev pub IsCertified : Setting → ℕ → Bundle → Type 0
IsCertified c p b = (b.id ≡ id b.value) × IsQuorum c.powers (named_senders b) × (p < length c.powers → IsQuorum c.powers (bundle_senders c p b))

abbrev pub RecordCertified : Setting → ℕ → Record → Type 0
RecordCertified c p (Own h r act) = Unit {0}
RecordCertified c p (Decided b) = IsCertified c p b

abbrev pub OptionCertified : Setting → ℕ → Option Record → Type 0
OptionCertified c p None = Unit {0}
OptionCertified c p (Some r) = RecordCertified c p r

standing_named : (c : Setting) (p : ℕ) (b : Bundle) (i : ℕ) → Stands c p b.height b.round b.id i b.precommits → named_senders b i ≡ true
standing_named c p b i z = any_in (λ (y : Signed). y.sender == i) z.signed b.precommits z.there (eq-eqb z.signed.sender i z.sender)

standing_vouches : (c : Setting) (p : ℕ) (b : Bundle) (i : ℕ) → p < length c.powers → Stands c p b.height b.round b.id i b.precommits → bundle_senders c p b i ≡ true
unfolding bundle_senders
standing_vouches c p b i l z = any_in (is_vouching c p b i) z.signed b.precommits z.there (and_from _ _ (eq-eqb z.signed.sender i z.sender) (z.tag l))

-- where each member of a quorum stands in the bundle
all_stand : (c : Setting) (p : ℕ) (b : Bundle) (members : ℕ → Bool) → b.id ≡ id b.value → IsQuorum c.powers members → ((i : ℕ) → i < length c.powers → members i ≡ true → Stands c p b.height b.round b.id i b.precommits) → IsCertified c p b
all_stand c p b members digest q each = (
  digest,
  quorum_more c.powers members (named_senders b) (λ i l m. standing_named c p b i (each i l m)) q,
  λ ok. quorum_more c.powers members (bundle_senders c p b) (λ i l m. standing_vouches c p b i ok (each i l m)) q,
)

starts_certified : (c : Setting) (p : ℕ) (s : State) (r : ℕ) (picked : Value) → OptionCertified c p (starts (context c p) s r picked)
starts_certified c p s r picked = cond_both (proposer c.powers s.height r == p) _ _ (OptionCertified c p) (λ _. by_value s.valid_value) (λ _. tt)
  where
    by_value : (o : Option ValueAt) → OptionCertified c p (Some (proposal_of s r picked o))
    by_value None = tt
    by_value (Some l) = tt

timed_certified : (c : Setting) (p : ℕ) (picked : Value) (s : State) (kind : Step) → OptionCertified c p ((times_out s kind).saves (context c p) picked)
timed_certified c p picked s Propose = tt
timed_certified c p picked s Prevote = tt
timed_certified c p picked s Precommit = starts_certified c p s (suc s.round) picked

-- who vouches for a bundle stands among its right precommits
vouching_stands : (c : Setting) (p : ℕ) (b : Bundle) (i : ℕ) → i < length c.powers → bundle_senders c p b i ≡ true → Stands c p b.height b.round b.id i (certified c p b)
unfolding bundle_senders certified
vouching_stands c p b i l e =
    let f = any_found (is_vouching c p b i) b.precommits e in
    let z = find_in (is_vouching c p b i) f.0 b.precommits f.1 f.2 in
    let there : z.0 ∈ option_to_list (find (is_vouching c p b i) b.precommits) = rw z.1 (inl refl) in
    let k = and_parts _ _ (found_in (is_vouching c p b i) b.precommits z.0 z.1).passes in record {
      signed = z.0;
      there = flat_map_in (λ j. option_to_list (find (is_vouching c p b j) b.precommits)) z.0 i (below (length c.powers)) (in_below i (length c.powers) l) there;
      sender = eqb-true _ _ k.0;
      tag = λ _. k.1;
    }

pub saved_certified : (c : Setting) (p : ℕ) (picked : Value) (s : State) → KeepsStamps c p s.height s.votes s.stamps → (k : Rule) → holds (context c p) s k ≡ true → OptionCertified c p (saved (context c p) picked s k)
saved_certified c p picked s st Start h = starts_certified c p s 0 picked
saved_certified c p picked s st (PrevoteFresh v) h = tt
saved_certified c p picked s st (PrevoteAgain r v) h = tt
saved_certified c p picked s st AwaitPrevotes h = tt
saved_certified c p picked s st (Lock v) h = cond_both (step_eq s.step Prevote) _ _ (OptionCertified c p) (λ _. tt) (λ _. tt)
saved_certified c p picked s st PrecommitNil h = tt
saved_certified c p picked s st AwaitPrecommits h = tt
saved_certified c p picked s st (Decide r v) h =
    let q : IsQuorum c.powers (senders s.votes (is_vote_for r Precommit (Some (id v)))) = (asked (context c p) s (Decide r v) h).quorum in
    let b : Bundle = record { height = s.height; sender = p; round = r; id = id v; value = v; precommits = certificate (context c p) s r (id v) } in
    all_stand c p b (senders s.votes (is_vote_for r Precommit (Some (id v)))) refl q (in_certificate c p s r (id v) st)
saved_certified c p picked s st (DecideByBundle b) h =
    let k = asked (context c p) s (DecideByBundle b) h in
    all_stand c p (record b { sender = p; precommits = certified c p b }) (bundle_senders c p b) k.digest k.quorum (vouching_stands c p b)
saved_certified c p picked s st (SkipRound r) h = starts_certified c p s r picked
saved_certified c p picked s st (TimedOut t) h = timed_certified c p picked s t.kind

-- ---- each event

pub own_sender : (p h r : ℕ) (act : Act) (v : Vote) → v ∈ votes_in (body_of p h r act) → v.sender ≡ p
own_sender p h r (Proposing vr u) v i = absurd i
own_sender p h r (Prevoting x) v (inl e) = ap (λ (y : Vote). y.sender) e
own_sender p h r (Prevoting x) v (inr e) = absurd e
own_sender p h r (Precommitting u) v (inl e) = ap (λ (y : Vote). y.sender) e
own_sender p h r (Precommitting u) v (inr e) = absurd e

since_sender : (p : ℕ) (j : List Record) (b : Body) (v : Vote) → b ∈ own_since p j → v ∈ votes_in b → v.sender ≡ p
since_sender p [] b v i k = absurd i
since_sender p (Decided d ∷ j) b v i k = absurd i
since_sender p (Own h r act ∷ j) b v i k = elim (in_append b (own_since p j) (body_of p h r act ∷ []) i) [
  | inl l ↦ since_sender p j b v l k
  | inr (inl e) ↦ own_sender p h r act v (subst (λ a. v ∈ votes_in a) e k)
  | inr (inr e) ↦ absurd e
]

-- a rule leaves the height, the votes and the stamps as they are, or empties these
timed_keeps : (P : ℕ → List Vote → List Stamp → Type 0) (s : State) (kind : Step) → P s.height s.votes s.stamps → P (times_out s kind).next.height (times_out s kind).next.votes (times_out s kind).next.stamps
timed_keeps P s Propose st = st
timed_keeps P s Prevote st = st
timed_keeps P s Precommit st = st

changed_keeps : (P : ℕ → List Vote → List Stamp → Type 0) (s : State) (k : Rule) → P s.height s.votes s.stamps → ((n : ℕ) → P n [] []) → P (changed s k).height (changed s k).votes (changed s k).stamps
changed_keeps P s Start st none = st
changed_keeps P s (PrevoteFresh v) st none = st
changed_keeps P s (PrevoteAgain r v) st none = st
changed_keeps P s AwaitPrevotes st none = st
changed_keeps P s (Lock v) st none = st
changed_keeps P s PrecommitNil st none = st
changed_keeps P s AwaitPrecommits st none = st
changed_keeps P s (Decide r v) st none = none (suc s.height)
changed_keeps P s (DecideByBundle b) st none = none (suc s.height)
changed_keeps P s (SkipRound r) st none = st
changed_keeps P s (TimedOut t) st none = timed_keeps P s t.kind st

no_stamps : (c : Setting) (p n : ℕ) → KeepsStamps c p n [] []
no_stamps c p n = record { stamped = λ v x i. absurd i; rights = λ z i. absurd i }

keeping_stamps : (s : State) (b : Body) → (keeping s b).stamps ≡ s.stamps
keeping_stamps s (OfVote v) = refl
keeping_stamps s (OfProposal q) = refl
keeping_stamps s (OfTx t) = refl
keeping_stamps s (OfAsk a) = refl
keeping_stamps s (OfBundle b) = refl

fired_stamped : (c : Setting) (p : ℕ) (o : Option Record) (t : State) → KeepsStamps c p t.height t.votes t.stamps → KeepsStamps c p (keeping_own t (released_by p o)).height (keeping_own t (released_by p o)).votes (keeping_own t (released_by p o)).stamps
fired_stamped c p None t st = st
fired_stamped c p (Some (Decided b)) t st = st
fired_stamped c p (Some (Own h r act)) t st =
    let b = body_of p h r act in record {
      stamped = subst (Stamped p (keeping t b).votes) (sym (keeping_stamps t b)) (λ v x i es ec.
          elim (in_append v t.votes (votes_in b) (subst (λ l. v ∈ l) (keeping_votes t b) i)) [ inl l ↦ st.stamped v x l es ec | inr l ↦ inl (own_sender p h r act v l) ]);
      rights = subst (λ n. (z : Stamp) → z ∈ (keeping t b).stamps → IsRight c p n z) (sym (keeping_height t b)) (subst (λ l. (z : Stamp) → z ∈ l → IsRight c p t.height z) (sym (keeping_stamps t b)) st.rights);
    }

more_stamps : (stamps more : List Stamp) (r : ℕ) (x : Id) (i : ℕ) → StampFound stamps r x i → StampFound (stamps ++ more) r x i
more_stamps stamps more r x i k = record { stamp = k.stamp; there = in_left k.stamp stamps more k.there; is = k.is }

-- the stamp of a precommit that is taken in
new_stamp : (stamps : List Stamp) (step : Step) (r i : ℕ) (content : Option Id) (tags : List (List ℕ)) (x : Id) → step ≡ Precommit → content ≡ Some x → StampFound (stamps ++ stamp_of step r i content tags) r x i
new_stamp stamps step r i content tags x es ec =
    let one : Stamp = record { round = r; id = x; signed = record { sender = i; tags = tags } } in
    let same : stamp_of step r i content tags ≡ one ∷ [] = rw (es, ec) refl in
    subst (λ l. StampFound (stamps ++ l) r x i) (sym same) (record {
      stamp = one;
      there = in_right one stamps (one ∷ []) (inl refl);
      is = and_from ((r == r) && bytes_eq x x) (i == i) (and_from (r == r) (bytes_eq x x) (eq-eqb r r refl) ((bytes_eq-Decides x x).1 refl)) (eq-eqb i i refl);
    })

-- its tag is right, as the vote's was
new_right : (c : Setting) (p height : ℕ) (tags : List (List ℕ)) (u : Vote) → right c p (Validator u.sender) (body_spelling (OfVote u)) tags ≡ true → u.height ≡ height
    → (step : Step) (content : Option Id) → step_of_vote u.step ≡ step → u.content ≡ content → (z : Stamp) → z ∈ stamp_of step u.round u.sender content tags → IsRight c p height z
new_right c p height tags u tag eh Precommit (Some x) es ec z (inl e) = subst (IsRight c p height) (sym e)
    (subst (λ (a : Vote). right c p (Validator u.sender) (body_spelling (OfVote a)) tags ≡ true) (same_vote u (precommit height u.round u.sender (Some x)) (is_precommit u.step es) eh refl refl ec) tag)
new_right c p height tags u tag eh Precommit (Some x) es ec z (inr i) = absurd i
new_right c p height tags u tag eh Precommit None es ec z i = absurd i
new_right c p height tags u tag eh Prevote content es ec z i = absurd i
new_right c p height tags u tag eh Propose content es ec z i = absurd i

pub taken_stamped : (c : Setting) (p : ℕ) (s : State) (m : Message) (b : Body) → IsTaken c p s m b → KeepsStamps c p s.height s.votes s.stamps → KeepsStamps c p (kept_message s m b).height (kept_message s m b).votes (kept_message s m b).stamps
taken_stamped c p s m (OfVote u) t st =
    let more = stamp_of (step_of_vote u.step) u.round u.sender u.content m.tags in record {
      stamped = λ v x i es ec. elim (in_append v s.votes (u ∷ []) i) [
        | inl l ↦ (elim (st.stamped v x l es ec) [ inl own ↦ inl own | inr k ↦ inr (more_stamps s.stamps more v.round x v.sender k) ])
        | inr (inl same) ↦ inr (subst (λ (a : Vote). StampFound (s.stamps ++ more) a.round x a.sender) (sym same)
            (new_stamp s.stamps (step_of_vote u.step) u.round u.sender u.content m.tags x (subst (λ (a : Vote). step_of_vote a.step ≡ Precommit) same es) (subst (λ (a : Vote). a.content ≡ Some x) same ec)))
        | inr (inr none) ↦ absurd none
      ];
      rights = λ z i. elim (in_append z s.stamps more i) [ inl l ↦ st.rights z l | inr l ↦ new_right c p s.height m.tags u t.tag (t.height u (inl refl)) (step_of_vote u.step) u.content refl refl z l ];
    }
taken_stamped c p s m (OfProposal q) t st = record { stamped = st.stamped; rights = st.rights }
taken_stamped c p s m (OfTx x) t st = st
taken_stamped c p s m (OfAsk a) t st = st
taken_stamped c p s m (OfBundle b) t st = st

record Certified (c : Setting) (p : ℕ) (n : Node) : Type 0 where
  keeps : KeepsStamps c p n.state.height n.state.votes n.state.stamps
  certified : (r : Record) → r ∈ n.journal → RecordCertified c p r

saved_all_certified : (c : Setting) (p : ℕ) (o : Option Record) (j : List Record) → OptionCertified c p o → ((r : Record) → r ∈ j → RecordCertified c p r) → (r : Record) → r ∈ (option_to_list o ++ j) → RecordCertified c p r
saved_all_certified c p None j v k r i = k r i
saved_all_certified c p (Some a) j v k r (inl e) = subst (RecordCertified c p) (sym e) v
saved_all_certified c p (Some a) j v k r (inr i) = k r i

pub fired_keeps : (c : Setting) (p : ℕ) (n : Node) (k : Rule) → KeepsStamps c p n.state.height n.state.votes n.state.stamps → KeepsStamps c p (firing c p n k).node.state.height (firing c p n k).node.state.votes (firing c p n k).node.state.stamps
fired_keeps c p n k st = fired_stamped c p (saved (context c p) (pick n.queues) n.state k) (changed n.state k) (changed_keeps (KeepsStamps c p) n.state k st (no_stamps c p))

pub opened_keeps : (c : Setting) (p : ℕ) (j : List Record) → KeepsStamps c p (restart p j).height (restart p j).votes (restart p j).stamps
unfolding restart
opened_keeps c p j = record { stamped = λ v x i es ec. inl (let f = in_flat_map votes_in v (own_since p j) i in since_sender p j f.0 v f.1 f.2); rights = λ z i. absurd i }

fired_certified : (c : Setting) (p : ℕ) (n : Node) (k : Rule) → Certified c p n → holds (context c p) n.state k ≡ true → Certified c p (firing c p n k).node
fired_certified c p n k t h =
    let o = saved (context c p) (pick n.queues) n.state k in
    record {
      keeps = fired_keeps c p n k t.keeps;
      certified = saved_all_certified c p o n.journal (saved_certified c p (pick n.queues) n.state t.keeps k h) t.certified;
    }

opened_certified : (c : Setting) (p : ℕ) (j : List Record) → ((r : Record) → r ∈ j → RecordCertified c p r) → Certified c p (opened p j)
unfolding restart
opened_certified c p j k = record {
  keeps = opened_keeps c p j;
  certified = k;
}

abbrev AllCertified : Setting → (ℕ → Node) → Type 0
AllCertified c nodes = (p : ℕ) → Certified c p (nodes p)

with_certified : (c : Setting) (nodes : ℕ → Node) (p : ℕ) (n : Node) → AllCertified c nodes → Certified c p n → AllCertified c (λ q. cond (q == p) n (nodes q))
with_certified c nodes p n a t q = cond_both (q == p) n (nodes q) (Certified c q) (λ e. subst (λ i. Certified c i n) (sym (eqb-true q p e)) t) (λ _. a q)

happens_certified : (c : Setting) (w : World) (e : Event) → AllCertified c w.nodes → AllCertified c (happens c w e).nodes
happens_certified c w (Sends client op) a = a
happens_certified c w (Comes p bytes) a = come_cases c p (w.nodes p) (message_of bytes) (λ o. AllCertified c (moved w p o).nodes) (with_certified c w.nodes p (w.nodes p) a (a p))
    (λ m b _ _ t. with_certified c w.nodes p (taken_in (w.nodes p) m b).node a (record { keeps = taken_stamped c p (w.nodes p).state m b t (a p).keeps; certified = (a p).certified }))
    (λ m b _ _ h. with_certified c w.nodes p (firing c p (w.nodes p) (DecideByBundle b)).node a (fired_certified c p (w.nodes p) (DecideByBundle b) (a p) h))
happens_certified c w (Fires p k) a = try_cases c p (w.nodes p) k (λ o. AllCertified c (moved w p o).nodes) (with_certified c w.nodes p (w.nodes p) a (a p))
    (λ _ h. with_certified c w.nodes p (firing c p (w.nodes p) k).node a (fired_certified c p (w.nodes p) k (a p) h))
happens_certified c w (Asks p) a = with_certified c w.nodes p (w.nodes p) a (a p)
happens_certified c w (Resends p) a = with_certified c w.nodes p (w.nodes p) a (a p)
happens_certified c w (Restarts p cut) a = with_certified c w.nodes p (opened p (cut_record c p (w.nodes p) cut ++ (w.nodes p).journal)) a
    (opened_certified c p (cut_record c p (w.nodes p) cut ++ (w.nodes p).journal)
    (cut_cases c p (w.nodes p) cut (λ rs. (r : Record) → r ∈ (rs ++ (w.nodes p).journal) → RecordCertified c p r) (a p).certified (λ k h _. (fired_certified c p (w.nodes p) k (a p) h).certified)))

run_certified : (c : Setting) (w : World) (es : List Event) → AllCertified c w.nodes → AllCertified c (run c w es).nodes
run_certified c w [] a = a
run_certified c w (e ∷ es) a = run_certified c (happens c w e) es (happens_certified c w e a)

pub certificate_law : CertificateLaw
certificate_law c events p b i = (run_certified c (beginning c) events (λ q. opened_certified c q [] (λ r k. absurd k)) p).certified (Decided b) i
