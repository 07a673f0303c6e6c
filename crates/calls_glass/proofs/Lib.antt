mod Glass
