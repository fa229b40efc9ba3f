mod FanLemmas
mod RailValues
mod SiteKept
mod WrongSites
