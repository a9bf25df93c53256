-- How much is kept of each sender.
use Rattle.std.proofs.Common.{◌≡◌, ◌≢◌, ℕ, ◌+◌, ◌<◌, ◌≤◌, inl, inr, true, false, List, [], ◌∷◌, ◌++◌, length, get_or, set, replicate, refl, sym, ap, ◌∙◌, arith, leb, ltb, eqb, None}
use Rattle.std.proofs.lemmas.Bool.{cases_eq, eq-eqb, ne_eqb, le-leb, lt-leb, lt-ltb, and_from}
use Rattle.std.proofs.lemmas.List.{append-nil, length-set, length_push, get_or-replicate, get_or-set_same, get_or-set_other}
use Rattle.std.proofs.lemmas.List.Elements.{filter-append}
use Rattle.std.proofs.lemmas.List.Sums.{sum_by_push}
use Rattle.edge_frames.specs.Passing.{SentFrame, Load, sent, of_sender, bytes_of, load_of, no_load, IsMeasured, has_room, refusal}

pub nothing_measured : IsMeasured (replicate 128 no_load) []
nothing_measured = record {
  count = refl;
  each = λ s lt. get_or-replicate 128 s no_load no_load lt;
  within = λ s. record { frames = omega arith; bytes = omega arith };
}

size : SentFrame → ℕ
size f = length f.frame

module _ (loads : List Load) (fs : List SentFrame) (s : ℕ) (frame : List ℕ) (is : IsMeasured loads fs) (lt : s < 128) where
  had : get_or loads s no_load ≡ load_of s fs
  had = is.each s lt

  pub room_is : (get_or loads s no_load).frames < 512 → (get_or loads s no_load).bytes + length frame ≤ 2124288 → refusal s frame fs ≡ None
  room_is a b =
      let known : leb 128 s ≡ false = lt-leb _ _ lt in
      let count : (get_or loads s no_load).frames ≡ (load_of s fs).frames = ap (λ (l : Load). l.frames) had in
      let bytes : (get_or loads s no_load).bytes ≡ (load_of s fs).bytes = ap (λ (l : Load). l.bytes) had in
      let few : ltb (load_of s fs).frames 512 ≡ true = lt-ltb _ _ (omega arith) in
      let short : leb ((load_of s fs).bytes + length frame) 2124288 ≡ true = le-leb _ _ (omega arith) in
      let room : has_room s frame fs ≡ true = and_from _ _ few short in
      rw (known, room) refl

  own : of_sender s (fs ++ sent s frame ∷ []) ≡ of_sender s fs ++ sent s frame ∷ []
  own = filter-append (λ (f : SentFrame). eqb f.sender s) fs (sent s frame ∷ []) ∙ rw (eq-eqb s s refl) refl

  other : (t : ℕ) → t ≢ s → of_sender t (fs ++ sent s frame ∷ []) ≡ of_sender t fs
  other t ne = filter-append (λ (f : SentFrame). eqb f.sender t) fs (sent s frame ∷ []) ∙ rw (ne_eqb s t (λ e. ne (sym e))) (append-nil (of_sender t fs))

  more : load_of s (fs ++ sent s frame ∷ []) ≡ record { frames = (get_or loads s no_load).frames + 1; bytes = (get_or loads s no_load).bytes + length frame }
  more = rw (had, own, length_push (of_sender s fs) (sent s frame), sum_by_push (λ (f : SentFrame). length f.frame) (of_sender s fs) (sent s frame)) refl

  pub measured : (get_or loads s no_load).frames < 512 → (get_or loads s no_load).bytes + length frame ≤ 2124288
      → IsMeasured (set loads s (record { frames = (get_or loads s no_load).frames + 1; bytes = (get_or loads s no_load).bytes + length frame })) (fs ++ sent s frame ∷ [])
  measured a b = record {
    count = length-set loads s _ ∙ is.count;
    each = λ t below. elim (cases_eq t s) [
      | inl same ↦ rw same (get_or-set_same loads s _ no_load (rw is.count lt) ∙ sym more)
      | inr ne ↦ get_or-set_other loads s t _ no_load ne ∙ is.each t below ∙ ap (λ (us : List SentFrame). load_in us) (sym (other t ne))
    ];
    within = λ t. elim (cases_eq t s) [
      | inl same ↦ rw same (record { frames = omega (arith, ap (λ (l : Load). l.frames) more); bytes = omega (arith, ap (λ (l : Load). l.bytes) more) })
      | inr ne ↦ rw (other t ne) (is.within t)
    ];
  }
    where
      load_in : List SentFrame → Load
      load_in us = record { frames = length us; bytes = bytes_of us }
