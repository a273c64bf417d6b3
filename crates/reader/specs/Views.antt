-- What the shipped reader's state means.
use Rattle.interfaces.specs.States.{Snapshot}
use Rattle.forecast.specs.Plans.{forecast_snapshot}
use Rattle.forecast.specs.Views.{plans_of}
use Rattle.state.specs.Views.{own_snapshot}
use Rattle.reader.specs.declared.reader.Reader.{Reader}

abbrev pub reader_snapshot : Reader → Snapshot
reader_snapshot r = forecast_snapshot (plans_of r.state.planned) (own_snapshot r.state.below)
