use Rattle.std.proofs.Common.{◌≡◌, ◌+◌, ◌<◌, [], ◌++◌, length, get_or, set, sym, ap, ◌∙◌, rules}
use Rattle.std.proofs.lemmas.List.{get_or-map, map-set}
use Rattle.interfaces.specs.Checks.{refused_with, settled}
use Rattle.interfaces.specs.States.{pcr_count, pcr_length}
use Rattle.sha256.specs.Sha256.{sha256}
use Rattle.state.specs.Changes.{last_count, with_pcr_extended}
use Rattle.state.specs.Views.{own_snapshot}
use Rattle.interfaces.specs.Views.{pcr_bytes}
use Rattle.state.proofs.Changed.{extend_passes}
use Rattle.state.proofs.own.Own.extend.Goals as goal

pub returns : goal.returns
returns c =
    let o = c.args.self.now in
    let s = own_snapshot o in
    let index = c.args.index in
    let value = c.args.value.now in
    let counted : c.in_ok-count.count ≡ o.count + 1 = search rules in
    let below : o.count < last_count = search rules in
    let is : pcr_bytes c.in_ok-value.value ≡ value = search rules in
    let long : length value ≡ pcr_length = ap length (sym is) ∙ c.in_ok-value.value.long in
    let within : index < pcr_count = search rules in
    let passes = extend_passes s index value long within below in
    let old : pcr_bytes (get_or o.pcrs index c.index-self-index.result) ≡ get_or s.pcrs index [] = search (rules, get_or-map) in
    let new = c.extended.ensures ∙ (λ i. sha256 (old i ++ is i)) in
    let pcrs = map-set pcr_bytes o.pcrs index c.extended.result ∙ ap (set s.pcrs index) new in
    record {
      answer = sym (ap (λ f. refused_with f tt) passes);
      after = (λ i. record { pcrs = pcrs i; count = counted i; stored = s.stored; time = s.time; locality = s.locality; presence = s.presence }) ∙ sym (ap (λ f. settled f (with_pcr_extended s index value) s) passes);
    }
